use Rattle.std.proofs.Common.{ℕ, ◌∙◌, ap, take_all, arith, Bor}
use Rattle.std.specs.List.{sum_by}
use Rattle.std.proofs.lemmas.List.Sums.{sum_by_more}
use Rattle.doc_model.specs.declared.document.Item.{Item}
use Rattle.vb_core.specs.Covering.{size_within}
use Rattle.vb_core.proofs.making.total_within.Goals as goal

pub loop-item-preserved : goal.loop-item-preserved
loop-item-preserved g c =
    let f : Bor Item → ℕ = λ i. size_within c.args.collections.now c.args.store.now.spots i.now in
    let more = sum_by_more f c.args.items.now c.loop-item.item-index c.item-item.result c.loop-item-test.true in
    let is = ap f c.item-item.is in
    let so_far = c.loop-item.invariant in
    omega (arith, c.weight_within.ensures, c.in-Some.ensures)

pub returns : goal.returns
returns g c =
    let f : Bor Item → ℕ = λ i. size_within c.args.collections.now c.args.store.now.spots i.now in
    c.loop-item.invariant ∙ ap (sum_by f) (take_all c.loop-item.item-index c.args.items.now (omega arith))
