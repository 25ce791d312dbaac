use Rattle.vb_log.proofs.Holding.{held_none}
use Rattle.vb_log.proofs.content.empty.Goals as goal

pub invariant_of-result : goal.invariant_of-result
invariant_of-result c = held_none c.new.result c.new-2.result c.in_ok-first.field-0 c.new.ensures c.new-2.ensures c.in_ok-first.ensures
