use Rattle.std.proofs.Common.{not, sym, ◌∙◌, ap, arith}
use Rattle.std.specs.FinMap as map
use Rattle.doc_model.specs.Keys.{is_in}
use Rattle.magma_store.specs.Room.{with_found}
use Rattle.magma_store.specs.Spots.{with_spots, spots_size}
use Rattle.magma_store.specs.Taking.{spots_left}
use Rattle.magma_store.proofs.Room.{room_written}
use Rattle.magma_store.proofs.Weights.{size_room, others_sized}
use Rattle.magma_store.proofs.writing.put_places.Goals as goal

pub place_all-requires : goal.place_all-requires
place_all-requires c =
    let spots = c.args.spots.now in
    let dropped = c.args.dropped.now in
    let room = size_room spots c.args.places.now in
    let made = ap spots_size c.in_ok-make_room.ensures.ok in
    let left = others_sized c.make_room.new.spots dropped in
    let kept = ap spots_size c.remove_collections.ensures in
    omega (arith, c.in_ok-check_size.ensures)

pub returns-clause-ok : goal.returns-clause-ok
returns-clause-ok c =
    let spots = c.args.spots.now in
    let dropped = c.args.dropped.now in
    let places = c.args.places.now in
    c.place_all.ensures ∙ ap (λ s. with_found s places) c.remove_collections.ensures
    ∙ ap (λ s. with_found (map.retain_keys s (λ key. not (is_in dropped key))) places) c.in_ok-make_room.ensures.ok
    ∙ room_written spots dropped places c.requires.apart
    ∙ ap (λ b. with_spots (spots_left b dropped spots) places) (sym c.if-is_anew.false)
