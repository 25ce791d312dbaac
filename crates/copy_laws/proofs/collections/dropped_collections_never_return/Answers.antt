use Rattle.copy_laws.proofs.Manifests.{never_back}
use Rattle.copy_laws.proofs.collections.dropped_collections_never_return.Goals as goal

pub returns : goal.returns
returns g c = never_back
