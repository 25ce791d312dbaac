use Rattle.std.proofs.Common.{◌≡◌, take}
use Rattle.std.specs.List.{sum_by}
use Rattle.vb_core.specs.Covering.{size_within}
use Rattle.vb_core.proofs.making.total_within.Given as goal

abbrev pub invariant-loop-item : goal.invariant-loop-item
invariant-loop-item g l = l.total ≡ sum_by (λ i. size_within l.collections l.store.spots i.now) (take l.item-index l.items)
