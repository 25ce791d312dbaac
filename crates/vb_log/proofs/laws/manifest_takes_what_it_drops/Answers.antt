use Rattle.vb_log.proofs.Joins.{dropped_has_nothing, manifest_leaves_others}
use Rattle.vb_log.proofs.laws.manifest_takes_what_it_drops.Goals as goal

pub returns-clause-taken : goal.returns-clause-taken
returns-clause-taken c = dropped_has_nothing

pub returns-clause-left : goal.returns-clause-left
returns-clause-left c = manifest_leaves_others
