use Rattle.durability_core.proofs.Acks.{all_ready, first_ones, next_unready}
use Rattle.durability_core.proofs.laws.the_first_ready_are_committed.Goals as goal

pub returns-clause-ready : goal.returns-clause-ready
returns-clause-ready c = all_ready

pub returns-clause-first : goal.returns-clause-first
returns-clause-first c = first_ones

pub returns-clause-left : goal.returns-clause-left
returns-clause-left c = next_unready
