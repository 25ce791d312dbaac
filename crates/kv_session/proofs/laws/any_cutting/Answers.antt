use Rattle.kv_session.proofs.CuttingLaws.{any_cutting}
use Rattle.kv_session.proofs.laws.any_cutting.Goals as goal

pub returns : goal.returns
returns c = any_cutting
