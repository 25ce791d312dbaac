use Rattle.std.proofs.Common.{Ok, Err, Some, sym, subst}
use Rattle.vb_core.specs.Beginning.{PutsFirst}
use Rattle.vb_core.proofs.Firsts.{puts_first}
use Rattle.vb_core.proofs.opening.put_first.Goals as goal

pub returns-in-Ok-clause-puts : goal.returns-in-Ok-clause-puts
returns-in-Ok-clause-puts g c = λ copy s. puts_first g.D.Disk.states g.D.Disk.counts copy c.args.vb c.put_log.new.self (Ok tt) (c.in-Ok.ensures.puts copy s)

pub returns-in-Err-clause-puts : goal.returns-in-Err-clause-puts
returns-in-Err-clause-puts g c = λ copy s.
    subst (λ (d : g.row.D.Denot). PutsFirst g.D.Disk.states (g.D.Disk.states c.args.vb.store.disk) copy (Err c.in-Err.fault) (Some d)) (sym c.finish.ensures.disk)
    (puts_first g.D.Disk.states g.D.Disk.counts copy c.args.vb c.put_log.new.self (Err c.in-Err.fault) (c.in-Err.ensures.puts copy s))
