use Rattle.std.proofs.Common.{length}
use Rattle.doc_ops.proofs.Editing.{AreToMake}
use Rattle.doc_ops.proofs.edits.edit_all.Given as goal

abbrev pub invariant-loop-rest : goal.invariant-loop-rest
invariant-loop-rest l = AreToMake l.doc_flags l.begun l.specs l.rest l.place l.draft l.told.items

abbrev pub decreases-loop-rest : goal.decreases-loop-rest
decreases-loop-rest l = length l.rest
