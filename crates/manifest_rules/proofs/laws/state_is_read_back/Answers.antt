use Rattle.manifest_rules.proofs.States.{same_state}
use Rattle.manifest_rules.proofs.laws.state_is_read_back.Goals as goal

pub returns : goal.returns
returns c = same_state
