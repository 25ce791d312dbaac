use Rattle.kv_frame.proofs.Unique.{one_judgement}
use Rattle.kv_frame.proofs.laws.one_judgement.Goals as goal

pub returns : goal.returns
returns c = one_judgement
