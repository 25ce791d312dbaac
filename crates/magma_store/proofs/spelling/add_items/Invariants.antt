use Rattle.std.proofs.Common.{◌≡◌, ◌+◌, ◌-◌, ◌++◌, length, take, map as list_map}
use Rattle.std.specs.Int.{w32, to_be_bytes}
use Rattle.magma_store.specs.Spots.{placed}
use Rattle.magma_store.proofs.StoredItems.{flat}
use Rattle.magma_store.proofs.spelling.add_items.Given as goal

abbrev pub invariant-loop-item : goal.invariant-loop-item
invariant-loop-item l = record {
  bytes : l.piece.items ≡ l.fn.piece.items ++ (to_be_bytes w32 (length l.items) ++ flat (list_map (λ i. i.now) (take l.item-index l.items)));
  places : l.places ≡ placed (l.at + (length l.fn.piece.items - 4)) (list_map (λ i. i.now) (take l.item-index l.items));
}
