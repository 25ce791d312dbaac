use Rattle.std.proofs.Common.{◌≡◌, take}
use Rattle.magma_store.specs.Room.{without_room}
use Rattle.magma_store.proofs.index.take_back.Given as goal

abbrev pub invariant-loop-place : goal.invariant-loop-place
invariant-loop-place l = l.spots ≡ without_room l.fn.spots (take l.place-index l.places)
