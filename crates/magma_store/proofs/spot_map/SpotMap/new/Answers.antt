use Rattle.std.proofs.Common.{◌∙◌, ap, sym}
use Rattle.magma_store.specs.Spots.{spots_size}
use Rattle.magma_store.proofs.Weights.{size_none}
use Rattle.magma_store.proofs.spot_map.SpotMap.new.Goals as goal

pub invariant_of-result : goal.invariant_of-result
invariant_of-result c = sym (ap spots_size c.new.ensures ∙ size_none)
