use Rattle.replica_core.specs.Terms.{owner}
use Rattle.world_model.specs.Worlds.{seat_at}
use Rattle.world_model.specs.Terms.{term_of}
use Rattle.world_model.proofs.Leading.{active_had, active_lead}
use Rattle.world_model.proofs.laws.leads_are_of_actives.Goals as goal

pub returns-clause-had : goal.returns-clause-had
returns-clause-had g c = λ k y s v w run last copy up active term.
    active_had copy (seat_at w (owner copy.accepted)) (term_of run copy.accepted) up active term

pub returns-clause-lead : goal.returns-clause-lead
returns-clause-lead g c = λ k y s v w run last copy up active term.
    active_lead copy (seat_at w (owner copy.accepted)) (term_of run copy.accepted) up active term
