use Rattle.vb_log.proofs.Logs.{whole_logs_faithful, folds_faithful}
use Rattle.vb_log.proofs.laws.folds_follow_their_entries.Goals as goal

pub returns-clause-whole : goal.returns-clause-whole
returns-clause-whole c = whole_logs_faithful

pub returns-clause-folds : goal.returns-clause-folds
returns-clause-folds c = folds_faithful
