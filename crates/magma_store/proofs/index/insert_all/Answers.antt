use Rattle.std.proofs.Common.{sym, ◌∙◌, ap}
use Rattle.std.specs.FinMap as map
use Rattle.magma_store.proofs.Room.{Spots, spots_on}
use Rattle.magma_store.proofs.index.insert_all.Goals as goal

pub loop-place-preserved : goal.loop-place-preserved
loop-place-preserved c =
    let p = c.place-item.result in
    c.in_ok-insert.ensures.ok ∙ ap (λ (m : Spots). map.insert m p.key p.spot) c.loop-place.invariant
    ∙ sym (spots_on c.args.spots.now c.args.places.now c.loop-place.place-index p c.loop-place-test.true
    c.place-item.is)
