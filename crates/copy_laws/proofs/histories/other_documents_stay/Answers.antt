use Rattle.copy_laws.proofs.Historic.{others_stay}
use Rattle.copy_laws.proofs.histories.other_documents_stay.Goals as goal

pub returns : goal.returns
returns g c = λ y a b request now reply other none t named differs. others_stay y a b request now reply other none t named differs
