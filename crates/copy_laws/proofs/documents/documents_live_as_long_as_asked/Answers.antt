use Rattle.copy_laws.proofs.Lasting.{found_before, missed_after, found_forever}
use Rattle.copy_laws.proofs.documents.documents_live_as_long_as_asked.Goals as goal

pub returns-clause-before : goal.returns-clause-before
returns-clause-before g c = found_before

pub returns-clause-after : goal.returns-clause-after
returns-clause-after g c = missed_after

pub returns-clause-forever : goal.returns-clause-forever
returns-clause-forever g c = found_forever
