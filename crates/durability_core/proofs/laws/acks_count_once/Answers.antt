use Rattle.durability_core.proofs.Acks.{once, more}
use Rattle.durability_core.proofs.laws.acks_count_once.Goals as goal

pub returns-clause-once : goal.returns-clause-once
returns-clause-once c = once

pub returns-clause-more : goal.returns-clause-more
returns-clause-more c = more
