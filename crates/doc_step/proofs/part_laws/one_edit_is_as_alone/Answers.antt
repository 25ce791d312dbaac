use Rattle.doc_step.proofs.part_laws.one_edit_is_as_alone.Goals as goal
use Rattle.doc_step.proofs.Among.{edit_among, edit_refused_among}

-- src/part_laws.rt:75:1
pub returns-clause-made : goal.returns-clause-made
returns-clause-made c = edit_among

-- src/part_laws.rt:75:1
pub returns-clause-refused : goal.returns-clause-refused
returns-clause-refused c = edit_refused_among
