use Rattle.doc_step.proofs.Drawn.{carries}
use Rattle.doc_step.proofs.laws.changes_carry_the_draw.Goals as goal

pub returns : goal.returns
returns c = carries
