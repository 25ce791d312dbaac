use Rattle.vb_log.proofs.Entries.{one_break, break_none}
use Rattle.vb_log.proofs.laws.one_broken_place.Goals as goal

pub returns-clause-place : goal.returns-clause-place
returns-clause-place c = one_break

pub returns-clause-none : goal.returns-clause-none
returns-clause-none c = break_none
