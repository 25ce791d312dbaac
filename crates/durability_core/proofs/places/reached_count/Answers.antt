use Rattle.std.specs.Prelude.{true, false, map as list_map}
use Rattle.std.proofs.Common.{sym, ◌∙◌, arith}
use Rattle.durability_core.specs.Tracking.{known_at}
use Rattle.durability_core.specs.Reaches.{known_of, has_reached}
use Rattle.durability_core.proofs.Counts.{counted_more, counted_all}
use Rattle.durability_core.proofs.places.reached_count.Goals as goal
use Rattle.durability_core.proofs.places.reached_count.Goals.{then-is_counted, else-is_counted}

pub loop-place-init : goal.loop-place-init
loop-place-init c = record { all = omega arith; few = omega arith }

pub loop-place-preserved : goal.loop-place-preserved
loop-place-preserved c =
    let p = has_reached (known_at (list_map known_of c.args.known.now)) c.args.on_disk c.args.position in
    let names = c.args.chain.now.names in
    let all = c.as_slice-name-items.ensures in
    let more = counted_more p names c.loop-place.count c.if-is_counted.count c.loop-place.place c.name-item.result in
    elim c.if-is_counted.branch [
      | then-is_counted w ↦
          more true (rw all at c.loop-place-test.true) (rw all at c.name-item.is)
          (sym w.if-is_counted.true ∙ c.is_counted.ensures) w.count-is c.loop-place.invariant
      | else-is_counted w ↦
          more false (rw all at c.loop-place-test.true) (rw all at c.name-item.is)
          (sym w.if-is_counted.false ∙ c.is_counted.ensures) (w.count-is ∙ omega arith) c.loop-place.invariant
    ]

pub returns : goal.returns
returns c =
    let p = has_reached (known_at (list_map known_of c.args.known.now)) c.args.on_disk c.args.position in
    let all = c.as_slice-name-items.ensures in
    counted_all p c.args.chain.now.names c.loop-place.count c.loop-place.place
    (rw all at c.loop-place-test.false) c.loop-place.invariant
