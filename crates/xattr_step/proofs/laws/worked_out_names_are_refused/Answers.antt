use Rattle.xattr_step.proofs.Steps.{worked_out}
use Rattle.xattr_step.proofs.laws.worked_out_names_are_refused.Goals as goal

pub returns : goal.returns
returns c = worked_out
