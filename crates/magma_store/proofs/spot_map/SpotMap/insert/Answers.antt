use Rattle.std.proofs.Common.{ap, arith}
use Rattle.magma_store.specs.Spots.{spots_size, size_at}
use Rattle.magma_store.proofs.Weights.{size_insert, size_within}
use Rattle.magma_store.proofs.spot_map.SpotMap.insert.Goals as goal

pub overflow_sub-self : goal.overflow_sub-self
overflow_sub-self c =
    let part = size_within c.self.inside.by_key c.args.key.now in
    let is = ap size_at c.in_ok-before.ensures.before in
    let total = c.self.invariant in
    omega (arith, c.in-Some.ensures, c.weight_of.ensures)

pub invariant_of-self-2 : goal.invariant_of-self-2
invariant_of-self-2 c =
    let more = size_insert c.self.inside.by_key c.args.key.now c.args.spot in
    let is = ap size_at c.in_ok-before.ensures.before in
    let new = ap spots_size c.in_ok-before.ensures.ok in
    let total = c.self.invariant in
    omega (arith, c.in-Some.ensures, c.weight_of.ensures)
