use Rattle.durability_core.proofs.Ready.{own_has, disks_have, memories_have}
use Rattle.durability_core.proofs.laws.ready_places_have_it.Goals as goal

pub returns-clause-own : goal.returns-clause-own
returns-clause-own c = own_has

pub returns-clause-on_disk : goal.returns-clause-on_disk
returns-clause-on_disk c = disks_have

pub returns-clause-in_memory : goal.returns-clause-in_memory
returns-clause-in_memory c = memories_have
