use Rattle.copy_model.proofs.Growing.{step_grows}
use Rattle.copy_model.proofs.log_laws.logs_only_grow.Goals as goal

pub returns : goal.returns
returns g c = λ y luck e copy no. step_grows y luck e copy no
