use Rattle.replica_core.proofs.Moves.{taken_owner, taken_promise, taken_more}
use Rattle.replica_core.proofs.laws.only_more_is_taken.Goals as goal

pub returns-clause-owner : goal.returns-clause-owner
returns-clause-owner c = taken_owner

pub returns-clause-promise : goal.returns-clause-promise
returns-clause-promise c = taken_promise

pub returns-clause-more : goal.returns-clause-more
returns-clause-more c = taken_more
