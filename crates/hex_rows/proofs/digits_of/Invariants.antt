use Rattle.std.proofs.Common.{◌≡◌, ◌++◌, length}
use Rattle.hex_rows.specs.Rows.{without_spaces}
use Rattle.hex_rows.proofs.digits_of.Given as goal

-- the digits so far, with those of what is left, are those of the row
abbrev pub invariant-loop-left : goal.invariant-loop-left
invariant-loop-left l = l.digits.items ++ without_spaces l.left ≡ without_spaces l.fn.row

abbrev pub decreases-loop-left : goal.decreases-loop-left
decreases-loop-left l = length l.left
