use Rattle.kv_frame.proofs.Unique.{one_frame}
use Rattle.kv_frame.proofs.laws.one_frame.Goals as goal

pub returns : goal.returns
returns c = one_frame
