use Rattle.std.proofs.Common.{◌≡◌, ◌++◌, length, take, flat_map}
use Rattle.std.specs.Int.{w32, to_be_bytes}
use Rattle.vb_log.specs.Contents.{item_bytes}
use Rattle.vb_log.proofs.spelt_items.add_items.Given as goal

abbrev pub invariant-loop-item : goal.invariant-loop-item
invariant-loop-item l = l.out.items ≡ l.fn.out.items ++ (to_be_bytes w32 (length l.items) ++ flat_map (λ i. item_bytes i.now) (take l.item-index l.items))
