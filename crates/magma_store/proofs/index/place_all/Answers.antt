use Rattle.std.proofs.Common.{sym, ◌∙◌, ap, arith}
use Rattle.magma_store.specs.Spots.{spots_size}
use Rattle.magma_store.specs.Room.{with_found_one}
use Rattle.magma_store.proofs.Room.{Spots, found_on}
use Rattle.magma_store.proofs.Weights.{size_from, size_found}
use Rattle.magma_store.proofs.index.place_all.Goals as goal

pub replace-requires : goal.replace-requires
replace-requires c =
    let p = c.place-item.result in
    let next = size_from c.args.places.now c.loop-place.place-index p c.loop-place-test.true c.place-item.is in
    let fits = c.loop-place.invariant.fits in
    omega arith

pub loop-place-preserved : goal.loop-place-preserved
loop-place-preserved c =
    let p = c.place-item.result in
    let next = size_from c.args.places.now c.loop-place.place-index p c.loop-place-test.true c.place-item.is in
    let one = size_found c.loop-place.spots p in
    let same = ap spots_size c.replace.ensures in
    let fits = c.loop-place.invariant.fits in
    record {
      spots = c.replace.ensures ∙ ap (λ (m : Spots). with_found_one m p) c.loop-place.invariant.spots
          ∙ sym (found_on c.args.spots.now c.args.places.now c.loop-place.place-index p c.loop-place-test.true
          c.place-item.is);
      fits = omega arith;
    }
