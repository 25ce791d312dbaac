use Rattle.std.proofs.Common.{length}
use Rattle.manifest_rules.proofs.Rising.{Passing}
use Rattle.manifest_rules.proofs.ids.add_below.Given as goal

abbrev pub invariant-loop-left : goal.invariant-loop-left
invariant-loop-left l = Passing l.id l.ids l.left l.fn.all.items l.all.items

abbrev pub decreases-loop-left : goal.decreases-loop-left
decreases-loop-left l = length l.left
