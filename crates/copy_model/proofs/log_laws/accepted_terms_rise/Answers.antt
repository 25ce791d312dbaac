use Rattle.vb_log.specs.Logs.{whole_logs}
use Rattle.copy_model.proofs.Terms.{step_accepts}
use Rattle.copy_model.proofs.log_laws.accepted_terms_rise.Goals as goal

pub returns : goal.returns
returns g c = λ y luck e copy. step_accepts whole_logs copy y luck e
