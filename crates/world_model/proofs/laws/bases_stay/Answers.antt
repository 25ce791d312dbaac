use Rattle.replica_core.specs.Terms.{owner}
use Rattle.world_model.specs.Worlds.{seat_at}
use Rattle.world_model.specs.Terms.{term_of}
use Rattle.world_model.proofs.Leading.{stays_had, stays_base}
use Rattle.world_model.proofs.laws.bases_stay.Goals as goal

pub returns-clause-had : goal.returns-clause-had
returns-clause-had g c =
    λ k y s v w run last term e. stays_had term (seat_at w (owner term)) (term_of run term) e

pub returns-clause-base : goal.returns-clause-base
returns-clause-base g c =
    λ k y s v w run last term e. stays_base term (seat_at w (owner term)) (term_of run term) e
