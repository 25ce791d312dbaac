use Rattle.doc_step.proofs.Small.{step_small}
use Rattle.doc_step.proofs.laws.small_stays_small.Goals as goal

pub returns : goal.returns
returns c = step_small
