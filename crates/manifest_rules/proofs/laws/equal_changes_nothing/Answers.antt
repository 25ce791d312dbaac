use Rattle.manifest_rules.proofs.Equal.{equal_step_same}
use Rattle.manifest_rules.proofs.laws.equal_changes_nothing.Goals as goal

pub returns : goal.returns
returns c = equal_step_same
