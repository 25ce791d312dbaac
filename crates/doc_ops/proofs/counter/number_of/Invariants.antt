use Rattle.doc_ops.proofs.Counting.{IsRead}
use Rattle.doc_ops.proofs.counter.number_of.Given as goal

abbrev pub invariant-loop-byte : goal.invariant-loop-byte
invariant-loop-byte l = IsRead l.text l.byte-index l.number
