use Rattle.std.proofs.Common.{◌≡◌, ◌≤◌, ◌+◌, length}
use Rattle.subdoc_path.specs.Reading.{bare_length}
use Rattle.subdoc_path.proofs.pieces.bare_length.Given as goal

abbrev pub invariant-loop-rest : goal.invariant-loop-rest
invariant-loop-rest l = record { same : l.count + bare_length l.rest ≡ bare_length l.fn.bytes; within : l.count + length l.rest ≤ length l.fn.bytes }

abbrev pub decreases-loop-rest : goal.decreases-loop-rest
decreases-loop-rest l = length l.rest
