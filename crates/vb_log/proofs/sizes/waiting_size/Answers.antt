use Rattle.std.proofs.Common.{◌∙◌, sym, ap, take_all, arith}
use Rattle.std.specs.List.{sum_by}
use Rattle.std.proofs.lemmas.List.Sums.{sum-map, sum_by_more, sum_by_more_le}
use Rattle.vb_log.specs.Held.{pending_weight}
use Rattle.vb_log.proofs.sizes.waiting_size.Goals as goal

pub size_of-total-requires : goal.size_of-total-requires
size_of-total-requires c =
    let more = sum_by_more_le pending_weight c.args.changes.now c.loop-change.change-index c.change-item.result c.loop-change-test.true in
    let is = ap pending_weight c.change-item.is in
    let whole = sum-map pending_weight c.args.changes.now in
    omega (arith, c.requires)

pub overflow_add-total : goal.overflow_add-total
overflow_add-total c =
    let more = sum_by_more_le pending_weight c.args.changes.now c.loop-change.change-index c.change-item.result c.loop-change-test.true in
    let is = ap pending_weight c.change-item.is in
    let whole = sum-map pending_weight c.args.changes.now in
    let so_far = c.loop-change.invariant in
    omega (arith, c.requires, c.size_of-total.ensures)

pub loop-change-preserved : goal.loop-change-preserved
loop-change-preserved c =
    let more = sum_by_more pending_weight c.args.changes.now c.loop-change.change-index c.change-item.result c.loop-change-test.true in
    let is = ap pending_weight c.change-item.is in
    let so_far = c.loop-change.invariant in
    omega (arith, c.size_of-total.ensures)

pub returns : goal.returns
returns c =
    c.loop-change.invariant
    ∙ ap (sum_by pending_weight) (take_all c.loop-change.change-index c.args.changes.now (omega arith))
    ∙ sym (sum-map pending_weight c.args.changes.now)
