use Rattle.xattr_edit.proofs.Objects.{behind_none, behind_some}
use Rattle.xattr_edit.proofs.object.behind_length.Goals as goal

pub returns-in-Some : goal.returns-in-Some
returns-in-Some c = behind_some c.args.section.now c.in-Some.pairs.now c.in-Some.field-0-0 c.in-Some.ensures

pub returns-in-None : goal.returns-in-None
returns-in-None c = behind_none c.args.section.now c.in-None.ensures
