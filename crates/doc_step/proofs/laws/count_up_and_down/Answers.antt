use Rattle.doc_step.proofs.Counting.{up_and_down}
use Rattle.doc_step.proofs.laws.count_up_and_down.Goals as goal

pub returns : goal.returns
returns c = up_and_down
