use Rattle.std.proofs.Common.{◌≡◌, length}
use Rattle.subdoc_path.specs.Matching.{strip_left}
use Rattle.subdoc_path.proofs.keys.strip_left.Given as goal

abbrev pub invariant-loop-wanted : goal.invariant-loop-wanted
invariant-loop-wanted l = strip_left l.wanted l.left ≡ strip_left l.fn.front l.fn.name

abbrev pub decreases-loop-wanted : goal.decreases-loop-wanted
decreases-loop-wanted l = length l.wanted
