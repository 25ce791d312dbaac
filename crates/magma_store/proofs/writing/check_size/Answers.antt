use Rattle.std.proofs.Common.{arith}
use Rattle.magma_store.proofs.Weights.{size_from, size_behind}
use Rattle.magma_store.proofs.writing.check_size.Goals as goal

pub loop-place-preserved : goal.loop-place-preserved
loop-place-preserved c =
    let next = size_from c.args.places.now c.loop-place.place-index c.place-item.result c.loop-place-test.true c.place-item.is in
    let so = c.loop-place.invariant.sum in
    record { sum = omega (arith, c.in-Some.ensures); told = omega (arith, c.in-Some.ensures) }

pub returns : goal.returns
returns c =
    let none = size_behind c.args.places.now c.loop-place.place-index c.loop-place-test.false in
    let so = c.loop-place.invariant in
    omega arith
