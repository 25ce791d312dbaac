use Rattle.std.proofs.Common.{nat_eq}
use Rattle.doc_model.proofs.Listed.{Counts}
use Rattle.doc_model.proofs.weighing.others_weight.Given as goal

abbrev pub invariant-loop-key : goal.invariant-loop-key
invariant-loop-key g l = Counts (λ e. g.W.Weigh.weight e.1) (λ e. nat_eq e.0.collection l.collection) l.others.entries l.key-iterator l.total
