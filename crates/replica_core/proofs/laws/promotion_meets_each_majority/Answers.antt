use Rattle.replica_core.proofs.Promotion.{answers_meet}
use Rattle.replica_core.proofs.laws.promotion_meets_each_majority.Goals as goal

pub returns : goal.returns
returns c = answers_meet
