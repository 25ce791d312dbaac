use Rattle.durability_core.proofs.Ready.{two_of_three, one_of_two}
use Rattle.durability_core.proofs.laws.stronger_is_ready.Goals as goal

pub returns-clause-on_own_disk : goal.returns-clause-on_own_disk
returns-clause-on_own_disk c = two_of_three

pub returns-clause-in_memory : goal.returns-clause-in_memory
returns-clause-in_memory c = one_of_two
