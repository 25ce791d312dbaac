use Rattle.subdoc_step.proofs.Looked.{looked_answered, looked_only}
use Rattle.subdoc_step.proofs.laws.look_ups_have_one_answer.Goals as goal

pub returns-clause-answered : goal.returns-clause-answered
returns-clause-answered c = looked_answered

pub returns-clause-only : goal.returns-clause-only
returns-clause-only c = looked_only
