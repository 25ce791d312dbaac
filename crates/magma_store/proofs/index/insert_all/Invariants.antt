use Rattle.std.proofs.Common.{◌≡◌, take}
use Rattle.magma_store.specs.Spots.{with_spots}
use Rattle.magma_store.proofs.index.insert_all.Given as goal

abbrev pub invariant-loop-place : goal.invariant-loop-place
invariant-loop-place l = l.spots ≡ with_spots l.fn.spots (take l.place-index l.places)
