use Rattle.std.proofs.Common.{◌≡◌, take}
use Rattle.std.specs.List.{sum_by}
use Rattle.vb_log.specs.Held.{item_weight}
use Rattle.vb_log.proofs.sizes.listed_size.Given as goal

abbrev pub invariant-loop-item : goal.invariant-loop-item
invariant-loop-item l = l.total ≡ sum_by item_weight (take l.item-index l.items)
