use Rattle.durability_core.proofs.Ready.{none_ready}
use Rattle.durability_core.proofs.laws.nothing_is_ready_where_too_few_are_named.Goals as goal

pub returns : goal.returns
returns c = none_ready
