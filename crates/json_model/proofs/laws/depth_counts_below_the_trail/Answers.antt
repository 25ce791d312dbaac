use Rattle.json_model.proofs.Depths.{trail_depth}
use Rattle.json_model.proofs.laws.depth_counts_below_the_trail.Goals as goal

pub returns-clause-within : goal.returns-clause-within
returns-clause-within c = λ trail root t f most reaches shallow d. (trail_depth trail root t f most reaches shallow).back d

pub returns-clause-beyond : goal.returns-clause-beyond
returns-clause-beyond c = λ trail root t f most reaches shallow d. (trail_depth trail root t f most reaches shallow).forth d
