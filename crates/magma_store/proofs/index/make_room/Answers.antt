use Rattle.std.proofs.Common.{sym, ◌∙◌, ap}
use Rattle.magma_store.specs.Spots.{with_room}
use Rattle.magma_store.specs.Room.{with_room_for}
use Rattle.magma_store.proofs.Room.{Spots, room_on}
use Rattle.magma_store.proofs.index.make_room.Goals as goal

pub take_back-requires : goal.take_back-requires
take_back-requires c = (
  c.args.spots.now,
  c.requires,
  c.in-Err.ensures.err ∙ c.loop-i.invariant
      ∙ ap (with_room c.args.spots.now) (sym c.split_at.ensures.front),
)

pub loop-i-preserved : goal.loop-i-preserved
loop-i-preserved c =
    let p = c.index-places-i.result in
    c.in-Ok.ensures.ok ∙ ap (λ (m : Spots). with_room_for m p) c.loop-i.invariant
    ∙ sym (room_on c.args.spots.now c.args.places.now c.loop-i.i p c.loop-i-test.true c.index-places-i.is)
