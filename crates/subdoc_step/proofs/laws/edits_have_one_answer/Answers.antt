use Rattle.subdoc_step.proofs.Edited.{edited_answered, edited_only}
use Rattle.subdoc_step.proofs.laws.edits_have_one_answer.Goals as goal

pub returns-clause-answered : goal.returns-clause-answered
returns-clause-answered c = edited_answered

pub returns-clause-only : goal.returns-clause-only
returns-clause-only c = edited_only
