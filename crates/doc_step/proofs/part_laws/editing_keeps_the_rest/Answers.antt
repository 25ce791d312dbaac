use Rattle.doc_step.proofs.part_laws.editing_keeps_the_rest.Goals as goal
use Rattle.doc_step.proofs.Among.{edit_keeps, edits_keep}

-- src/part_laws.rt:34:1
pub returns-clause-one : goal.returns-clause-one
returns-clause-one c = edit_keeps

-- src/part_laws.rt:34:1
pub returns-clause-several : goal.returns-clause-several
returns-clause-several c = edits_keep
