use Rattle.copy_laws.specs.Collections.{StandsInCollection}
use Rattle.copy_laws.proofs.Deeds.{all_stay}
use Rattle.copy_laws.proofs.Manifests.{none_stands, standing_stays}
use Rattle.copy_laws.proofs.collections.documents_stand_in_collections.Goals as goal

pub returns-clause-begins : goal.returns-clause-begins
returns-clause-begins g c = none_stands

pub returns-clause-kept : goal.returns-clause-kept
returns-clause-kept g c = λ y a b deeds key none t h. all_stay y (StandsInCollection key) (standing_stays key) a b deeds none t h
