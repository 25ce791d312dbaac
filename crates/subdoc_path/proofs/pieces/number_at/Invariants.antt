use Rattle.std.proofs.Common.{◌≡◌, ◌≤◌, length}
use Rattle.subdoc_path.specs.Reading.{number_at}
use Rattle.subdoc_path.proofs.pieces.number_at.Given as goal

abbrev pub invariant-loop-rest : goal.invariant-loop-rest
invariant-loop-rest l = record { same : number_at l.number l.rest ≡ number_at 0 l.fn.bytes; within : length l.rest ≤ length l.fn.bytes }

abbrev pub decreases-loop-rest : goal.decreases-loop-rest
decreases-loop-rest l = length l.rest
