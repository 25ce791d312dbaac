use Rattle.copy_laws.proofs.Manifests.{dropped_empty}
use Rattle.copy_laws.proofs.collections.dropped_collections_are_empty.Goals as goal

pub returns : goal.returns
returns g c = dropped_empty
