use Rattle.copy_laws.proofs.Guarding.{get_tells, set_tells, change_tells}
use Rattle.copy_laws.proofs.guards.replies_tell_the_cas.Goals as goal

pub returns-clause-found : goal.returns-clause-found
returns-clause-found g c = get_tells

pub returns-clause-stored : goal.returns-clause-stored
returns-clause-stored g c = set_tells

pub returns-clause-changed : goal.returns-clause-changed
returns-clause-changed g c = λ y a b request now key reply doc none named t differs kept.
    change_tells y a b request now key reply doc none named t differs kept
