use Rattle.std.specs.FinMap as map
use Rattle.std.proofs.Common.{sym, ◌∙◌, ap}
use Rattle.doc_model.proofs.Slots.{from_slot, from_others, told_same, is_had, is_free, is_others, placed_removed, freed_own, slot_freed, other_gone}
use Rattle.doc_model.proofs.Apart.{trees_freed, trees_gone}
use Rattle.std.specs.BTreeMap.{is_at}
use Rattle.doc_model.specs.Slots.{slot_cmp}
use Rattle.doc_model.proofs.key_map.KeyMap.remove.Goals as goal
use Rattle.doc_model.proofs.key_map.KeyMap.remove.Goals.{in-Some-remove, in-None}

pub invariant_of-self : goal.invariant_of-self
invariant_of-self g c =
    let es = c.self.inside.slots.entries in
    let es' = c.remove.new.self.entries in
    let key = c.args.key.now in
    let slot = c.slot_of-slot.result in
    let there = c.in-Some.entry.now in
    trees_freed es es' c.self.inside.others.entries c.remove-elsewhere.new.self.entries key
    (freed_own es es' slot key there c.slot_of-slot.ensures (told_same there.0 key c.eq.result c.eq.ensures c.if-eq.true) c.in-Some.ensures.value c.remove.ensures.updates.0)
    c.remove-elsewhere.ensures.updates.0 c.self.invariant
    (placed_removed es es' (is_at (slot_cmp slot)) c.remove.ensures.entries c.self.invariant.placed c.remove.ensures.ordered) c.remove-elsewhere.ensures.ordered

pub returns-then-eq-clause-before : goal.returns-then-eq-clause-before
returns-then-eq-clause-before g c =
    let es = c.self.inside.slots.entries in
    let key = c.args.key.now in
    let there = c.in-Some.entry.now in
    let there_is = c.in-Some.ensures.value in
    elim c.match-remove.branch [
      | in-Some-remove w ↦
          w.result-is
          ∙ from_slot es c.self.inside.others.entries c.args.self.now key _ c.self.view_is c.self.invariant.placed
          (is_had es c.slot_of-slot.result key there _ c.slot_of-slot.ensures there_is (told_same there.0 key c.eq.result c.eq.ensures c.if-eq.true) w.in-Some-remove.ensures.value)
      | in-None w ↦ absurd (let e = w.in-None.ensures.value ∙ sym there_is in cc)
    ]

pub returns-then-eq-clause-removed : goal.returns-then-eq-clause-removed
returns-then-eq-clause-removed g c =
    let es = c.self.inside.slots.entries in
    let key = c.args.key.now in
    let there = c.in-Some.entry.now in
    slot_freed es c.remove.new.self.entries c.self.inside.others.entries c.remove-elsewhere.new.self.entries c.slot_of-slot.result key there
    c.slot_of-slot.ensures (told_same there.0 key c.eq.result c.eq.ensures c.if-eq.true) c.in-Some.ensures.value c.remove.ensures.updates.0 c.remove-elsewhere.ensures.updates.0 c.self.invariant.placed
    (placed_removed es c.remove.new.self.entries (is_at (slot_cmp c.slot_of-slot.result)) c.remove.ensures.entries c.self.invariant.placed c.remove.ensures.ordered)
    ∙ ap (λ m. map.remove m key) c.self.view_is

pub returns-else-eq-clause-before : goal.returns-else-eq-clause-before
returns-else-eq-clause-before g c =
    let es = c.self.inside.slots.entries in
    let key = c.args.key.now in
    from_others es c.self.inside.others.entries c.args.self.now key c.remove-elsewhere.result c.self.view_is c.self.invariant.placed
    (is_others es c.slot_of-slot.result key c.in-Some.entry.now c.eq.result c.slot_of-slot.ensures c.in-Some.ensures.value c.eq.ensures c.if-eq.false)
    c.remove-elsewhere.ensures.value

pub returns-else-eq-clause-removed : goal.returns-else-eq-clause-removed
returns-else-eq-clause-removed g c =
    let es = c.self.inside.slots.entries in
    let key = c.args.key.now in
    other_gone es c.self.inside.others.entries c.remove-elsewhere.new.self.entries key
    (is_others es c.slot_of-slot.result key c.in-Some.entry.now c.eq.result c.slot_of-slot.ensures c.in-Some.ensures.value c.eq.ensures c.if-eq.false)
    c.remove-elsewhere.ensures.updates.0 c.self.invariant.placed
    ∙ ap (λ m. map.remove m key) c.self.view_is

pub returns-in_default-clause-before : goal.returns-in_default-clause-before
returns-in_default-clause-before g c =
    let es = c.self.inside.slots.entries in
    let key = c.args.key.now in
    from_others es c.self.inside.others.entries c.args.self.now key c.remove-elsewhere.result c.self.view_is c.self.invariant.placed
    (is_free es c.slot_of-slot.result key c.slot_of-slot.ensures c.in_default.ensures.value)
    c.remove-elsewhere.ensures.value

pub returns-in_default-clause-removed : goal.returns-in_default-clause-removed
returns-in_default-clause-removed g c =
    let es = c.self.inside.slots.entries in
    let key = c.args.key.now in
    other_gone es c.self.inside.others.entries c.remove-elsewhere.new.self.entries key
    (is_free es c.slot_of-slot.result key c.slot_of-slot.ensures c.in_default.ensures.value)
    c.remove-elsewhere.ensures.updates.0 c.self.invariant.placed
    ∙ ap (λ m. map.remove m key) c.self.view_is

pub invariant_of-self-else-eq : goal.invariant_of-self-else-eq
invariant_of-self-else-eq g c = trees_gone c.self.inside.slots.entries c.self.inside.others.entries c.remove-elsewhere.new.self.entries c.args.key.now c.remove-elsewhere.ensures.updates.0 c.self.invariant c.remove-elsewhere.ensures.ordered

pub invariant_of-self-in_default : goal.invariant_of-self-in_default
invariant_of-self-in_default g c = trees_gone c.self.inside.slots.entries c.self.inside.others.entries c.remove-elsewhere.new.self.entries c.args.key.now c.remove-elsewhere.ensures.updates.0 c.self.invariant c.remove-elsewhere.ensures.ordered
