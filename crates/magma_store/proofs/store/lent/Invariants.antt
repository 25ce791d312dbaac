use Rattle.std.proofs.Common.{◌≡◌, take, map as list_map}
use Rattle.magma_store.proofs.store.lent.Given as goal

abbrev pub invariant-loop-item : goal.invariant-loop-item
invariant-loop-item l = list_map (λ i. i.now) l.lent.items ≡ take l.item-index l.items
