use Rattle.vb_log.proofs.Waiting.{commit_shows, commit_leaves_others, commit_of_dropped, commit_ends}
use Rattle.vb_log.proofs.laws.commit_shows_what_was_prepared.Goals as goal

pub returns-clause-shows : goal.returns-clause-shows
returns-clause-shows c = commit_shows

pub returns-clause-others : goal.returns-clause-others
returns-clause-others c = commit_leaves_others

pub returns-clause-dropped : goal.returns-clause-dropped
returns-clause-dropped c = commit_of_dropped

pub returns-clause-ends : goal.returns-clause-ends
returns-clause-ends c = commit_ends
