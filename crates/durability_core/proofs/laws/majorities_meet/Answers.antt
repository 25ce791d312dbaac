use Rattle.durability_core.proofs.Counts.{most_meet}
use Rattle.durability_core.proofs.laws.majorities_meet.Goals as goal

pub returns : goal.returns
returns c = most_meet
