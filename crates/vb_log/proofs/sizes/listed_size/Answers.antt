use Rattle.std.proofs.Common.{◌∙◌, sym, ap, take_all, arith}
use Rattle.std.specs.List.{sum_by}
use Rattle.std.proofs.lemmas.List.Sums.{sum-map, sum_by_more, sum_by_more_le}
use Rattle.vb_log.specs.Held.{item_weight}
use Rattle.vb_log.proofs.sizes.listed_size.Goals as goal

pub size_of-total-requires : goal.size_of-total-requires
size_of-total-requires c =
    let more = sum_by_more_le item_weight c.args.items.now c.loop-item.item-index c.item-item.result c.loop-item-test.true in
    let is = ap item_weight c.item-item.is in
    let whole = sum-map item_weight c.args.items.now in
    omega (arith, c.requires)

pub overflow_add-total : goal.overflow_add-total
overflow_add-total c =
    let more = sum_by_more_le item_weight c.args.items.now c.loop-item.item-index c.item-item.result c.loop-item-test.true in
    let is = ap item_weight c.item-item.is in
    let whole = sum-map item_weight c.args.items.now in
    let so_far = c.loop-item.invariant in
    omega (arith, c.requires, c.size_of-total.ensures)

pub loop-item-preserved : goal.loop-item-preserved
loop-item-preserved c =
    let more = sum_by_more item_weight c.args.items.now c.loop-item.item-index c.item-item.result c.loop-item-test.true in
    let is = ap item_weight c.item-item.is in
    let so_far = c.loop-item.invariant in
    omega (arith, c.size_of-total.ensures)

pub returns : goal.returns
returns c =
    c.loop-item.invariant
    ∙ ap (sum_by item_weight) (take_all c.loop-item.item-index c.args.items.now (omega arith))
    ∙ sym (sum-map item_weight c.args.items.now)
