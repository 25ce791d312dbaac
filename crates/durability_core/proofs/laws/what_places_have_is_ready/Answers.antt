use Rattle.durability_core.proofs.Ready.{had_ready, had_and_kept_ready, kept_ready}
use Rattle.durability_core.proofs.laws.what_places_have_is_ready.Goals as goal

pub returns-clause-in_memory : goal.returns-clause-in_memory
returns-clause-in_memory c = had_ready

pub returns-clause-own : goal.returns-clause-own
returns-clause-own c = had_and_kept_ready

pub returns-clause-on_disk : goal.returns-clause-on_disk
returns-clause-on_disk c = kept_ready
