use Rattle.kv_session.proofs.CuttingLaws.{two_cuttings}
use Rattle.kv_session.proofs.laws.two_cuttings.Goals as goal

pub returns : goal.returns
returns c = two_cuttings
