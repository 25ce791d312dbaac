use Rattle.replica_core.specs.Promotion.{promote_fault}
use Rattle.replica_core.proofs.Moves.{fenced_up, promotion_keeps, taken_up}
use Rattle.replica_core.proofs.laws.promises_never_fall.Goals as goal

pub returns-clause-fenced : goal.returns-clause-fenced
returns-clause-fenced c = fenced_up

pub returns-clause-promoted : goal.returns-clause-promoted
returns-clause-promoted c = λ core term answers weak.
    promotion_keeps core term (promote_fault core term answers weak)

pub returns-clause-taken : goal.returns-clause-taken
returns-clause-taken c = taken_up
