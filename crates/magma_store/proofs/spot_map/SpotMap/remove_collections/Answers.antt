use Rattle.std.proofs.Common.{ap, arith}
use Rattle.manifest_rules.proofs.Rising.{rising_sorted}
use Rattle.magma_store.specs.Spots.{spots_size}
use Rattle.magma_store.proofs.Weights.{of_some, others_sized}
use Rattle.magma_store.proofs.spot_map.SpotMap.remove_collections.Goals as goal

pub remove_collections-requires : goal.remove_collections-requires
remove_collections-requires c = rising_sorted c.args.collections.now c.requires

pub invariant_of-self : goal.invariant_of-self
invariant_of-self c =
    let m = c.self.inside.by_key in
    let ids = c.args.collections.now in
    let parts = others_sized m ids in
    let total = c.self.invariant in
    let view = ap (λ m. spots_size (of_some ids m)) c.self.view_is in
    let new = ap spots_size c.remove_collections.ensures in
    omega (arith, c.size_in-size.ensures.value)
