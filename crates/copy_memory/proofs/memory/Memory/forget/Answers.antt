use Rattle.std.proofs.Common.{◌∙◌, ap}
use Rattle.std.specs.FinMap as map
use Rattle.copy_memory.specs.contracts.memory.Memory.{the_view}
use Rattle.copy_memory.proofs.Polled.{forgets}
use Rattle.copy_memory.proofs.memory.Memory.forget.Goals as goal

pub returns : goal.returns
returns c = λ copy r.
    forgets (the_view c.self.inside) copy c.args.ticket.now c.close.new.self
    (c.close.ensures ∙ ap (map.remove c.self.inside.tickets) c.name_of.ensures) (rw (← c.self.view_is) at r)
