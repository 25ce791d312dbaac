use Rattle.manifest_rules.proofs.ReadBack.{kept_read_back}
use Rattle.manifest_rules.proofs.laws.text_is_read_back.Goals as goal

pub returns : goal.returns
returns c = kept_read_back
