use Rattle.vb_log.specs.Logs.{whole_logs}
use Rattle.copy_model.proofs.Growing.{step_rises}
use Rattle.copy_model.proofs.log_laws.promises_rise.Goals as goal

pub returns : goal.returns
returns g c = λ y luck e copy. step_rises whole_logs y luck e copy
