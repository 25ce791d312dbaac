use Rattle.xattr_step.proofs.Sections.{section_left}
use Rattle.xattr_step.proofs.laws.edits_leave_sections.Goals as goal

pub returns : goal.returns
returns c = section_left
