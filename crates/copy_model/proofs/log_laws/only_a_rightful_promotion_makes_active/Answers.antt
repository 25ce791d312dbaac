use Rattle.copy_model.proofs.Growing.{step_begins}
use Rattle.copy_model.proofs.log_laws.only_a_rightful_promotion_makes_active.Goals as goal

pub returns : goal.returns
returns g c = λ y luck e copy no yes. step_begins y luck copy no e yes
