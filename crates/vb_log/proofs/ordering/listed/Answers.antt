use Rattle.std.proofs.Common.{◌++◌, sym, ap, ◌∙◌, append-nil}
use Rattle.std.proofs.Common.{map as list_map}
use Rattle.vb_log.proofs.ordering.listed.Goals as goal

pub returns : goal.returns
returns c =
    let items = list_map (λ i. i.now) c.loop-item.items.items in
    sym (append-nil items) ∙ ap (λ l. items ++ l) (sym c.in-None.ensures.steps.0) ∙ c.loop-item.invariant
