use Rattle.xattr_edit.proofs.Gaps.{Leads}
use Rattle.xattr_edit.proofs.blanks.blanks_before.Given as goal

-- all so far are blanks
abbrev pub invariant-loop-i : goal.invariant-loop-i
invariant-loop-i l = Leads l.text l.i
