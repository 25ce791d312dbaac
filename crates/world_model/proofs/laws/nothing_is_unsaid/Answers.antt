use Rattle.world_model.proofs.Remembering.{remembers}
use Rattle.world_model.proofs.laws.nothing_is_unsaid.Goals as goal

pub returns : goal.returns
returns g c = λ k y s w run. remembers s w run
