use Rattle.xattr_step.proofs.Found.{none_found}
use Rattle.xattr_step.proofs.laws.nothing_is_found_in_none.Goals as goal

pub returns : goal.returns
returns c = none_found
