use Rattle.std.specs.FinMap as map
use Rattle.std.proofs.Common.{sym, ◌∙◌, ap}
use Rattle.copy_memory.proofs.Names.{get_value}
use Rattle.copy_memory.proofs.tickets.Tickets.fate.Goals as goal

pub returns : goal.returns
returns c =
    c.copied.ensures ∙ c.get.ensures.value ∙ sym (get_value c.self.inside.by_name.entries c.args.name.now)
    ∙ ap (λ m. map.get m c.args.name.now) c.self.view_is
