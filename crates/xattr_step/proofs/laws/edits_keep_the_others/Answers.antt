use Rattle.xattr_step.proofs.Kept.{others_kept}
use Rattle.xattr_step.proofs.laws.edits_keep_the_others.Goals as goal

pub returns : goal.returns
returns c = others_kept
