use Rattle.std.specs.Prelude.{true, false}
use Rattle.std.proofs.Common.{sym, ◌∙◌, arith}
use Rattle.durability_core.proofs.Counts.{counted_more, counted_all}
use Rattle.replica_core.specs.Promotion.{has_answered}
use Rattle.replica_core.proofs.promoting.answered_count.Goals as goal
use Rattle.replica_core.proofs.promoting.answered_count.Goals.{then-is_counted, else-is_counted}

pub loop-place-init : goal.loop-place-init
loop-place-init c = record { all = omega arith; few = omega arith }

pub loop-place-preserved : goal.loop-place-preserved
loop-place-preserved c =
    let p = has_answered c.args.term c.args.answers.now in
    let names = c.args.chain.now.names in
    let all = c.as_slice-name-items.ensures in
    let more = counted_more p names c.loop-place.count c.if-is_counted.count c.loop-place.place c.name-item.result in
    elim c.if-is_counted.branch [
      | then-is_counted w ↦
          more true (rw all at c.loop-place-test.true) (rw all at c.name-item.is)
          (sym w.if-is_counted.true ∙ c.is_counted.ensures) w.count-is c.loop-place.invariant
      | else-is_counted w ↦
          more false (rw all at c.loop-place-test.true) (rw all at c.name-item.is)
          (sym w.if-is_counted.false ∙ c.is_counted.ensures) (w.count-is ∙ omega arith) c.loop-place.invariant
    ]

pub returns : goal.returns
returns c =
    let all = c.as_slice-name-items.ensures in
    counted_all (has_answered c.args.term c.args.answers.now) c.args.chain.now.names c.loop-place.count c.loop-place.place
    (rw all at c.loop-place-test.false) c.loop-place.invariant
