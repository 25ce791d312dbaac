use Rattle.std.proofs.Common.{◌≡◌, not, filter, take}
use Rattle.doc_model.specs.Keys.{is_among_ids}
use Rattle.doc_model.proofs.dropping.remove_slots.Given as goal

abbrev pub invariant-loop-collection : goal.invariant-loop-collection
invariant-loop-collection g l = l.slots.entries ≡ filter (λ e. not (is_among_ids (take l.collection-index l.collections) e.0.collection)) l.initial.slots.entries
