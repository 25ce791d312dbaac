use Rattle.std.proofs.Common.{◌≡◌, take}
use Rattle.magma_store.specs.Spots.{with_room}
use Rattle.magma_store.proofs.index.make_room.Given as goal

abbrev pub invariant-loop-i : goal.invariant-loop-i
invariant-loop-i l = l.spots ≡ with_room l.fn.spots (take l.i l.places)
