use Rattle.std.proofs.Common.{ap, arith}
use Rattle.magma_store.specs.Spots.{spots_size, size_at}
use Rattle.magma_store.proofs.Weights.{size_within}
use Rattle.magma_store.proofs.spot_map.SpotMap.size_at.Goals as goal

pub returns-in-Some-clause-part : goal.returns-in-Some-clause-part
returns-in-Some-clause-part c =
    let part = size_within c.self.inside.by_key c.args.key.now in
    let is = ap size_at c.in-Some.ensures in
    let view = ap spots_size c.self.view_is in
    omega arith
