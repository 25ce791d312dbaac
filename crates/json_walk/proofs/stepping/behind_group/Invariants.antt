use Rattle.std.proofs.Common.{◌≡◌, ◌+◌, ◌≤◌, length}
use Rattle.json_walk.specs.Stepping.{closed_at}
use Rattle.json_walk.proofs.stepping.behind_group.Given as goal

-- what is left closes where all does, and each open bracket was a byte
abbrev pub invariant-loop-rest : goal.invariant-loop-rest
invariant-loop-rest l = record { read : closed_at l.depth l.rest ≡ closed_at 0 l.fn.bytes; few : l.depth + length l.rest ≤ length l.fn.bytes }

abbrev pub decreases-loop-rest : goal.decreases-loop-rest
decreases-loop-rest l = length l.rest
