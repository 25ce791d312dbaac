use Rattle.durability_core.proofs.Ready.{lasts}
use Rattle.durability_core.proofs.laws.readiness_lasts.Goals as goal

pub returns : goal.returns
returns c = lasts
