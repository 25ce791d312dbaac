use Rattle.magma_store.proofs.Batches.{PlacesRead}
use Rattle.magma_store.proofs.reading.places_of.Given as goal

abbrev pub invariant-loop-done : goal.invariant-loop-done
invariant-loop-done l = PlacesRead l.at l.count l.done l.bytes l.places l.left
