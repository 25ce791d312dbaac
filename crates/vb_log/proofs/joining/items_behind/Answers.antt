use Rattle.std.proofs.Common.{◌≡◌, ◌++◌, map as list_map, sym, ap, ◌∙◌, subst, append-nil}
use Rattle.vb_log.specs.Joining.{AreBehind}
use Rattle.vb_log.proofs.Behind.{those_behind, all_behind}
use Rattle.vb_log.proofs.joining.items_behind.Goals as goal

pub returns : goal.returns
returns c = λ m v at.
    let behind = c.loop-item.behind.items in
    let values = list_map (λ e. e.1) c.args.values.slots ++ c.args.values.others in
    let whole : behind ≡ those_behind c.args.from values =
    sym (append-nil behind) ∙ ap (λ l. behind ++ those_behind c.args.from l) (sym c.in-None.ensures.steps.0) ∙ c.loop-item.invariant in
    subst (AreBehind m c.args.from) (sym whole) (all_behind m values c.args.from v at)
