use Rattle.doc_step.proofs.part_laws.first_failing_edit_is_named.Goals as goal
use Rattle.doc_step.proofs.Among.{names_first}

-- src/part_laws.rt:61:1
pub returns : goal.returns
returns c = names_first
