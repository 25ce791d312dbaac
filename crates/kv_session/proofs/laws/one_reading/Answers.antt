use Rattle.kv_session.proofs.CuttingLaws.{one_reading}
use Rattle.kv_session.proofs.laws.one_reading.Goals as goal

pub returns : goal.returns
returns c = one_reading
