use Rattle.kv_tool.proofs.Asked.{asks}
use Rattle.kv_tool.proofs.connection.Connection.ask.Goals as goal

pub returns-clause-asks : goal.returns-clause-asks
returns-clause-asks g c =
    asks g.D.Disk.states g.D.Disk.counts c.args.now c.args.request.now c.args.self.now.vb c.request.new.self c.in-Reply.reply c.in-Reply.ensures.step c.in-Reply.ensures.level c.in-Reply.ensures.counts
