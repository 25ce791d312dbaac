use Rattle.std.proofs.Common.{◌+◌, ◌∙◌, ap, sym, take, arith}
use Rattle.std.proofs.lemmas.List.{take_all}
use Rattle.magma_store.specs.Spots.{spots_size}
use Rattle.magma_store.proofs.Weights.{of_some, none_sized, some_sized, some_more}
use Rattle.magma_store.proofs.spot_map.SpotMap.size_in.Goals as goal

pub loop-collection-init : goal.loop-collection-init
loop-collection-init c = sym (none_sized c.self.inside.by_key)

pub overflow_add-total : goal.overflow_add-total
overflow_add-total c =
    let m = c.self.inside.by_key in
    let ids = c.args.collections.now in
    let i = c.loop-collection.collection-index in
    let more = some_more m ids i c.requires c.loop-collection-test.true in
    let part = some_sized m (take (i + 1) ids) in
    let so_far = c.loop-collection.invariant in
    let size = c.self.invariant in
    omega (arith, c.weight_in-total.ensures)

pub loop-collection-preserved : goal.loop-collection-preserved
loop-collection-preserved c =
    let m = c.self.inside.by_key in
    let ids = c.args.collections.now in
    let i = c.loop-collection.collection-index in
    let more = some_more m ids i c.requires c.loop-collection-test.true in
    let so_far = c.loop-collection.invariant in
    omega (arith, c.weight_in-total.ensures)

pub returns-clause-value : goal.returns-clause-value
returns-clause-value c =
    c.loop-collection.invariant
    ∙ ap (λ l. spots_size (of_some l c.self.inside.by_key)) (take_all c.loop-collection.collection-index c.args.collections.now (omega arith))
    ∙ ap (λ m. spots_size (of_some c.args.collections.now m)) c.self.view_is

pub returns-clause-part : goal.returns-clause-part
returns-clause-part c =
    let m = c.self.inside.by_key in
    let part = some_sized m (take c.loop-collection.collection-index c.args.collections.now) in
    let so_far = c.loop-collection.invariant in
    let view = ap spots_size c.self.view_is in
    omega arith
