use Rattle.copy_laws.proofs.Manifests.{kept_stay}
use Rattle.copy_laws.proofs.collections.kept_collections_stay.Goals as goal

pub returns : goal.returns
returns g c = kept_stay
