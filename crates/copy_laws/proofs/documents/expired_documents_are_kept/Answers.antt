use Rattle.copy_laws.proofs.Lasting.{expired_stays, expired_missed}
use Rattle.copy_laws.proofs.documents.expired_documents_are_kept.Goals as goal

pub returns-clause-stays : goal.returns-clause-stays
returns-clause-stays g c = expired_stays

pub returns-clause-missed : goal.returns-clause-missed
returns-clause-missed g c = expired_missed
