use Rattle.std.specs.FinMap as map
use Rattle.std.proofs.Common.{◌∙◌, ap}
use Rattle.copy_memory.specs.declared.tickets.KeptFate.TheVariants as kept
use Rattle.copy_memory.proofs.Names.{one_given}
use Rattle.copy_memory.proofs.tickets.Tickets.open.Goals as goal

pub returns-clause-ok : goal.returns-clause-ok
returns-clause-ok c =
    one_given c.self.inside.by_name.entries c.insert.new.self.entries c.args.name kept.Waiting c.in_ok-insert.ensures.updates.0
    ∙ ap (λ m. map.insert m c.args.name kept.Waiting) c.self.view_is
