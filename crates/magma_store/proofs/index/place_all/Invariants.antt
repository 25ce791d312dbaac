use Rattle.std.proofs.Common.{◌≡◌, ◌+◌, ◌<◌, ◌^◌, take, drop}
use Rattle.magma_store.specs.Spots.{spots_size, places_size}
use Rattle.magma_store.specs.Room.{with_found}
use Rattle.magma_store.proofs.index.place_all.Given as goal

abbrev pub invariant-loop-place : goal.invariant-loop-place
invariant-loop-place l = record {
  spots : l.spots ≡ with_found l.fn.spots (take l.place-index l.places);
  fits : spots_size l.spots + places_size (drop l.place-index l.places) < 2 ^ 64;
}
