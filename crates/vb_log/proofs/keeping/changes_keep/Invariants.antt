use Rattle.std.proofs.Common.{drop}
use Rattle.vb_log.proofs.Leftover.{WaitIf}
use Rattle.vb_log.proofs.keeping.changes_keep.Given as goal

abbrev pub invariant-loop-change : goal.invariant-loop-change
invariant-loop-change l = WaitIf l.bounds l.pending l.before (drop l.change-index l.pending)
