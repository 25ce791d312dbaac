use Rattle.std.proofs.Common.{◌≡◌, ◌++◌, length}
use Rattle.kv_request.specs.Tables.{pairs_of}
use Rattle.kv_request.proofs.reading.pairs.Given as goal

abbrev pub invariant-loop-rest : goal.invariant-loop-rest
invariant-loop-rest l = l.numbers.items ++ pairs_of l.rest ≡ pairs_of l.bytes

abbrev pub decreases-loop-rest : goal.decreases-loop-rest
decreases-loop-rest l = length l.rest
