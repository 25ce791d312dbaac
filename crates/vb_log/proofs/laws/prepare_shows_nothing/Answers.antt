use Rattle.vb_log.proofs.Waiting.{prepare_shows_nothing, prepare_waits, waits_as_prepared}
use Rattle.vb_log.proofs.laws.prepare_shows_nothing.Goals as goal

pub returns-clause-shows : goal.returns-clause-shows
returns-clause-shows c = prepare_shows_nothing

pub returns-clause-waits : goal.returns-clause-waits
returns-clause-waits c = prepare_waits

pub returns-clause-prepared : goal.returns-clause-prepared
returns-clause-prepared c = waits_as_prepared
