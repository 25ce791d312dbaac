use Rattle.replica_core.proofs.Hearing.{dead_hears}
use Rattle.replica_core.proofs.laws.dead_copies_hear_nothing.Goals as goal

pub returns : goal.returns
returns c = dead_hears
