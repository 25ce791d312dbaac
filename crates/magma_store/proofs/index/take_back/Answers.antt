use Rattle.std.proofs.Common.{sym, ◌∙◌, ap}
use Rattle.std.proofs.lemmas.List.{take_all}
use Rattle.magma_store.specs.Room.{without_room_for, without_room}
use Rattle.magma_store.proofs.Room.{Spots, back_on, room_back}
use Rattle.magma_store.proofs.index.take_back.Goals as goal

pub loop-place-preserved : goal.loop-place-preserved
loop-place-preserved c =
    let p = c.place-item.result in
    c.take_back_for.ensures ∙ ap (λ (m : Spots). without_room_for m p) c.loop-place.invariant
    ∙ sym (back_on c.args.spots.now c.args.places.now c.loop-place.place-index p c.loop-place-test.true c.place-item.is)

pub returns : goal.returns
returns c =
    λ before leads is.
    c.loop-place.invariant
    ∙ ap (without_room c.args.spots.now) (take_all c.loop-place.place-index c.args.places.now c.loop-place-test.false)
    ∙ ap (λ (m : Spots). without_room m c.args.places.now) is ∙ room_back before c.args.places.now leads
