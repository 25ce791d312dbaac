use Rattle.std.proofs.Common.{◌≡◌, ◌≤◌, false, length}
use Rattle.subdoc_path.specs.Reading.{ticked_at, behind_name}
use Rattle.subdoc_path.proofs.pieces.ticked_at.Given as goal

abbrev pub invariant-loop-rest : goal.invariant-loop-rest
invariant-loop-rest l = record { same : behind_name l.name (ticked_at l.waits l.rest) ≡ ticked_at false l.fn.bytes; within : length l.rest ≤ length l.fn.bytes }

abbrev pub decreases-loop-rest : goal.decreases-loop-rest
decreases-loop-rest l = length l.rest
