use Rattle.std.specs.FinMap as map
use Rattle.std.proofs.Common.{◌∙◌, ap}
use Rattle.copy_memory.proofs.Names.{one_removed}
use Rattle.copy_memory.proofs.tickets.Tickets.close.Goals as goal

pub returns : goal.returns
returns c =
    one_removed c.self.inside.by_name.entries c.remove.new.self.entries c.args.name.now c.remove.ensures.updates.0
    ∙ ap (λ m. map.remove m c.args.name.now) c.self.view_is
