use Rattle.vb_log.proofs.Waiting.{abort_shows_nothing, abort_ends}
use Rattle.vb_log.proofs.laws.abort_only_ends_its_prepare.Goals as goal

pub returns-clause-shows : goal.returns-clause-shows
returns-clause-shows c = abort_shows_nothing

pub returns-clause-ends : goal.returns-clause-ends
returns-clause-ends c = abort_ends
