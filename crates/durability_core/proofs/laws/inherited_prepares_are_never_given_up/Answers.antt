use Rattle.durability_core.proofs.Acks.{never_due}
use Rattle.durability_core.proofs.laws.inherited_prepares_are_never_given_up.Goals as goal

pub returns : goal.returns
returns c = never_due
