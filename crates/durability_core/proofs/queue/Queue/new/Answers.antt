use Rattle.durability_core.proofs.Keyed.{none_kept}
use Rattle.durability_core.proofs.queue.Queue.new.Goals as goal

pub invariant_of-result : goal.invariant_of-result
invariant_of-result c = rw (c.new-2.ensures, c.new.ensures.items) none_kept
