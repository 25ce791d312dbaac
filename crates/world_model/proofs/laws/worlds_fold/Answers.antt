use Rattle.vb_log.specs.Logs.{whole_logs}
use Rattle.vb_log.proofs.Logs.{whole_logs_faithful}
use Rattle.world_model.proofs.Folding.{run_folds, world_begins}
use Rattle.world_model.proofs.laws.worlds_fold.Goals as goal

pub returns-clause-runs : goal.returns-clause-runs
returns-clause-runs g c = λ y s w run. run_folds whole_logs whole_logs_faithful y s w run

pub returns-clause-begins : goal.returns-clause-begins
returns-clause-begins g c =
    λ layout chain number. world_begins whole_logs whole_logs_faithful layout chain number
