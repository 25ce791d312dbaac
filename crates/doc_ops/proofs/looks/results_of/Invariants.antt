use Rattle.std.proofs.Common.{length}
use Rattle.doc_ops.proofs.Looking.{AreLeft}
use Rattle.doc_ops.proofs.looks.results_of.Given as goal

abbrev pub invariant-loop-rest : goal.invariant-loop-rest
invariant-loop-rest l = AreLeft l.doc l.texts l.specs l.rest l.bytes.items l.all

abbrev pub decreases-loop-rest : goal.decreases-loop-rest
decreases-loop-rest l = length l.rest
