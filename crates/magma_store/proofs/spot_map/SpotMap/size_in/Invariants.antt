use Rattle.std.proofs.Common.{◌≡◌, take}
use Rattle.magma_store.specs.Spots.{spots_size}
use Rattle.magma_store.proofs.Weights.{of_some}
use Rattle.magma_store.proofs.spot_map.SpotMap.size_in.Given as goal

abbrev pub invariant-loop-collection : goal.invariant-loop-collection
invariant-loop-collection l = l.total ≡ spots_size (of_some (take l.collection-index l.collections) l.self-inside.by_key)
