use Rattle.vb_log.specs.Logs.{whole_logs}
use Rattle.vb_log.proofs.Logs.{whole_logs_faithful}
use Rattle.copy_model.proofs.Laying.{may_fold, may_unfold}
use Rattle.copy_model.proofs.laws.copies_may_the_same.Goals as goal

pub returns-clause-folds_may : goal.returns-clause-folds_may
returns-clause-folds_may g c = λ y e copy new told may. may_fold whole_logs whole_logs_faithful y e copy new told may

pub returns-clause-wholes_may : goal.returns-clause-wholes_may
returns-clause-wholes_may g c = λ y e copy d told may. may_unfold whole_logs whole_logs_faithful y e copy d told may
