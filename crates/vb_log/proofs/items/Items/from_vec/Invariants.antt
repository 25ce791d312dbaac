use Rattle.std.specs.FinMap as map
use Rattle.std.proofs.Common.{length}
use Rattle.vb_log.proofs.Together.{SetSome}
use Rattle.vb_log.proofs.items.Items.from_vec.Given as goal

abbrev pub invariant-loop-item : goal.invariant-loop-item
invariant-loop-item l = SetSome map.empty l.fn.items.items l.left.items l.made

abbrev pub decreases-loop-item : goal.decreases-loop-item
decreases-loop-item l = length l.left.items
