use Rattle.std.proofs.Common.{sym, subst}
use Rattle.kv_tool.specs.declared.exit.Exit.{Exit}
use Rattle.kv_tool.specs.Progress.{ClosesWith}
use Rattle.kv_tool.proofs.Asked.{closes}
use Rattle.kv_tool.proofs.connection.Connection.close.Goals as goal

pub returns-in-Done-clause-closes : goal.returns-in-Done-clause-closes
returns-in-Done-clause-closes g c =
    subst (λ (e : Exit). ClosesWith g.D.Disk.states g.D.Disk.counts c.args.self.now.vb e c.flush.new.self c.closed_as.result) (sym c.in-Done.is)
    (closes g.D.Disk.states g.D.Disk.counts c.args.self.now.vb c.flush.new.self c.flush.result _ c.closed_as.result c.flush.ensures.flushes c.flush.ensures.counts c.closed_as.ensures)
