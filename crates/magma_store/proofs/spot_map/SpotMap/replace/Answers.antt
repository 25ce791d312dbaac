use Rattle.std.specs.Prelude.{◌≡◌, is_some, if◌then◌else◌}
use Rattle.std.specs.FinMap as map
use Rattle.std.proofs.Common.{◌∙◌, sym, ap, arith}
use Rattle.magma_store.specs.Spots.{spots_size, size_at}
use Rattle.magma_store.proofs.Weights.{size_insert, size_within}
use Rattle.magma_store.proofs.spot_map.SpotMap.replace.Goals as goal

pub overflow_sub-self : goal.overflow_sub-self
overflow_sub-self c =
    let part = size_within c.self.inside.by_key c.args.key.now in
    let is = ap size_at c.in-Some.ensures.before in
    let total = c.self.invariant in
    omega arith

pub invariant_of-self : goal.invariant_of-self
invariant_of-self c =
    let m = c.self.inside.by_key in
    let key = c.args.key.now in
    let more = size_insert m key c.args.spot in
    let is = ap size_at c.in-Some.ensures.before in
    let there = ap is_some c.in-Some.ensures.before in
    let set : c.replace.new.self ≡ map.insert m key c.args.spot =
    c.in-Some.ensures.replaced ∙ ap (λ b. if b then map.insert m key c.args.spot else m) (sym there) in
    let new = ap spots_size set in
    let total = c.self.invariant in
    omega arith
