use Rattle.std.proofs.Common.{◌≡◌, ◌++◌}
use Rattle.std.proofs.Common.{map as list_map}
use Rattle.vb_log.proofs.ordering.listed.Given as goal

abbrev pub invariant-loop-item : goal.invariant-loop-item
invariant-loop-item l =
    list_map (λ i. i.now) l.items.items ++ (list_map (λ e. e.1) l.item-iterator.slots ++ l.item-iterator.others) ≡ list_map (λ e. e.1) l.fn.values.slots ++ l.fn.values.others
