use Rattle.copy_laws.proofs.Passing.{cas_passes, cas_no_more}
use Rattle.copy_laws.proofs.guards.the_cas_of_a_document_passes.Goals as goal

pub returns-clause-passes : goal.returns-clause-passes
returns-clause-passes g c = cas_passes

pub returns-clause-no_more : goal.returns-clause-no_more
returns-clause-no_more g c = cas_no_more
