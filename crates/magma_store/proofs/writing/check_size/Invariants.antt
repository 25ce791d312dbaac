use Rattle.std.proofs.Common.{◌≡◌, ◌+◌, ◌<◌, ◌^◌, drop}
use Rattle.magma_store.specs.Spots.{spots_size, places_size}
use Rattle.magma_store.proofs.writing.check_size.Given as goal

abbrev pub invariant-loop-place : goal.invariant-loop-place
invariant-loop-place l = record {
  sum : l.total + places_size (drop l.place-index l.places) ≡ spots_size l.spots + places_size l.places;
  told : l.total < 2 ^ 64;
}
