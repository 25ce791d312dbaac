use Rattle.std.proofs.Common.{ap, arith}
use Rattle.magma_store.specs.Spots.{spots_size, size_at}
use Rattle.magma_store.proofs.Weights.{size_within, size_remove}
use Rattle.magma_store.proofs.spot_map.SpotMap.remove.Goals as goal

pub overflow_sub-self : goal.overflow_sub-self
overflow_sub-self c =
    let part = size_within c.self.inside.by_key c.args.key.now in
    let is = ap size_at c.in-Some.ensures.before in
    let total = c.self.invariant in
    omega arith

pub invariant_of-self : goal.invariant_of-self
invariant_of-self c =
    let left = size_remove c.self.inside.by_key c.args.key.now in
    let is = ap size_at c.in-Some.ensures.before in
    let new = ap spots_size c.in-Some.ensures.removed in
    let total = c.self.invariant in
    omega arith

pub invariant_of-self-in_default : goal.invariant_of-self-in_default
invariant_of-self-in_default c =
    let left = size_remove c.self.inside.by_key c.args.key.now in
    let is = ap size_at c.in_default.ensures.before in
    let new = ap spots_size c.in_default.ensures.removed in
    let total = c.self.invariant in
    omega arith
