use Rattle.std.proofs.Common.{◌≡◌, not, nat_eq, filter, length}
use Rattle.doc_model.proofs.dropping.remove_slots_of.Given as goal

abbrev pub invariant-loop-slot : goal.invariant-loop-slot
invariant-loop-slot g l = filter (λ e. not (nat_eq e.0.collection l.collection)) l.slots.entries ≡ filter (λ e. not (nat_eq e.0.collection l.collection)) l.fn.slots.entries

abbrev pub decreases-loop-slot : goal.decreases-loop-slot
decreases-loop-slot g l = length l.slots.entries
