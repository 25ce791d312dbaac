use Rattle.std.proofs.Common.{nat_eq}
use Rattle.doc_model.proofs.Listed.{Counts, StandFrom}
use Rattle.doc_model.proofs.weighing.slots_weight.Given as goal

abbrev pub invariant-loop-slot : goal.invariant-loop-slot
invariant-loop-slot g l = record {
  counts : Counts (λ e. g.W.Weigh.weight e.1.1) (λ e. nat_eq e.0.collection l.collection) l.slots.entries l.slot-iterator l.total;
  stands : StandFrom l.collection l.slot-iterator;
}
