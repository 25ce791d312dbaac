use Rattle.std.proofs.Common.{◌≡◌, ◌++◌}
use Rattle.std.proofs.Common.{map as list_map}
use Rattle.vb_log.proofs.Behind.{those_behind}
use Rattle.vb_log.proofs.joining.items_behind.Given as goal

abbrev pub invariant-loop-item : goal.invariant-loop-item
invariant-loop-item l =
    l.behind.items ++ those_behind l.from (list_map (λ e. e.1) l.item-iterator.slots ++ l.item-iterator.others) ≡ those_behind l.from (list_map (λ e. e.1) l.fn.values.slots ++ l.fn.values.others)
