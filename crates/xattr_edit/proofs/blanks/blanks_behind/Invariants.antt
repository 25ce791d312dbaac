use Rattle.std.proofs.Common.{length}
use Rattle.xattr_edit.proofs.Gaps.{Trails}
use Rattle.xattr_edit.proofs.blanks.blanks_behind.Given as goal

-- all behind the front are blanks
abbrev pub invariant-loop-front : goal.invariant-loop-front
invariant-loop-front l = Trails l.text l.front

abbrev pub decreases-loop-front : goal.decreases-loop-front
decreases-loop-front l = length l.front
