use Rattle.std.proofs.Common.{length}
use Rattle.subdoc_path.proofs.Spelling.{Going}
use Rattle.subdoc_path.proofs.reading.parts_of.Given as goal

abbrev pub invariant-loop-rest : goal.invariant-loop-rest
invariant-loop-rest l = Going l.bytes l.parts l.rest

abbrev pub decreases-loop-rest : goal.decreases-loop-rest
decreases-loop-rest l = length l.rest
