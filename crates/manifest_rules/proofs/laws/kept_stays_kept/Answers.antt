use Rattle.manifest_rules.proofs.Runs.{kept_step, first_kept}
use Rattle.manifest_rules.proofs.laws.kept_stays_kept.Goals as goal

pub returns-clause-first : goal.returns-clause-first
returns-clause-first c = first_kept

pub returns-clause-step : goal.returns-clause-step
returns-clause-step c = kept_step
