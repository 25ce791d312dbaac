use Rattle.replica_core.proofs.Promotion.{made_by_right}
use Rattle.replica_core.proofs.laws.rightful_promotions_are_made.Goals as goal

pub returns : goal.returns
returns c = made_by_right
