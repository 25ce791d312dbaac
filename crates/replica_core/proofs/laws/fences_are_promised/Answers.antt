use Rattle.replica_core.proofs.Moves.{answered_promised}
use Rattle.replica_core.proofs.laws.fences_are_promised.Goals as goal

pub returns : goal.returns
returns c = answered_promised
