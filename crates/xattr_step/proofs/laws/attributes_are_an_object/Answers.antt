use Rattle.xattr_step.proofs.Objects.{is_object}
use Rattle.xattr_step.proofs.laws.attributes_are_an_object.Goals as goal

pub returns : goal.returns
returns c = is_object
