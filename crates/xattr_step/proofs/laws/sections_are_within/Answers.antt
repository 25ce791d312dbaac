use Rattle.xattr_step.proofs.Steps.{section_within}
use Rattle.xattr_step.proofs.laws.sections_are_within.Goals as goal

pub returns : goal.returns
returns c = section_within
