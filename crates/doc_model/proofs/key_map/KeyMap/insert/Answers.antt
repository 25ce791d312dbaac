use Rattle.std.specs.Prelude.{Some, is_some, cond, refl}
use Rattle.std.specs.BTreeMap.{is_at, insert_entry}
use Rattle.std.specs.FinMap as map
use Rattle.std.proofs.Common.{sym, ◌∙◌, ap}
use Rattle.std.proofs.lemmas.Map.Steps.{set_value_same}
use Rattle.doc_model.specs.Keys.{key_cmp}
use Rattle.doc_model.specs.Slots.{slot_cmp}
use Rattle.doc_model.proofs.Entries.{value_at}
use Rattle.doc_model.proofs.Slots.{joined, slot_at, from_slot, from_others, told_same, is_its, is_free, is_others, placed_set, placed_inserted, replaced_own, replaced, taken_own, taken, elsewhere, at_err}
use Rattle.doc_model.proofs.Apart.{trees_same, trees_replaced, trees_taken, trees_elsewhere}
use Rattle.doc_model.proofs.key_map.KeyMap.insert.Goals as goal

pub invariant_of-self : goal.invariant_of-self
invariant_of-self g c =
    let es = c.self.inside.slots.entries in
    let fs = c.self.inside.others.entries in
    let key = c.args.key.now in
    let there = c.in-Some.entry.now in
    let value = c.replace.new.dest in
    let es' = (c.get_mut.follows.lender (there.0, value)).entries in
    let w = c.get_mut.follows.holds (there.0, value) in
    let same = told_same there.0 key c.eq.result c.eq.ensures c.if-eq.true in
    trees_replaced es es' fs key there.1 value (is_its es c.slot_of-slot.result key there c.slot_of-slot.ensures c.in-Some.ensures.value same)
    (replaced_own es es' c.slot_of-slot.result key there value c.slot_of-slot.ensures same c.in-Some.ensures.value (w.3 (ap is_some (sym c.in-Some.ensures.value))).0)
    c.self.invariant (placed_set es es' c.slot_of-slot.result key (there.0, value) c.slot_of-slot.ensures same w.0 c.self.invariant.placed w.4)

pub returns-then-eq-clause-before : goal.returns-then-eq-clause-before
returns-then-eq-clause-before g c =
    let es = c.self.inside.slots.entries in
    let key = c.args.key.now in
    let there = c.in-Some.entry.now in
    ap (λ v. Some v) c.replace.ensures.value
    ∙ from_slot es c.self.inside.others.entries c.args.self.now key there.1 c.self.view_is c.self.invariant.placed
    (is_its es c.slot_of-slot.result key there c.slot_of-slot.ensures c.in-Some.ensures.value (told_same there.0 key c.eq.result c.eq.ensures c.if-eq.true))

pub returns-then-eq-clause-ok : goal.returns-then-eq-clause-ok
returns-then-eq-clause-ok g c =
    let es = c.self.inside.slots.entries in
    let fs = c.self.inside.others.entries in
    let key = c.args.key.now in
    let there = c.in-Some.entry.now in
    let value = c.replace.new.dest in
    let es' = (c.get_mut.follows.lender (there.0, value)).entries in
    let w = c.get_mut.follows.holds (there.0, value) in
    let same = told_same there.0 key c.eq.result c.eq.ensures c.if-eq.true in
    replaced es es' fs c.slot_of-slot.result key there value c.slot_of-slot.ensures same c.in-Some.ensures.value
    (w.3 (ap is_some (sym c.in-Some.ensures.value))).0 c.self.invariant.placed
    (placed_set es es' c.slot_of-slot.result key (there.0, value) c.slot_of-slot.ensures same w.0 c.self.invariant.placed w.4)
    ∙ ap (λ m. map.insert m key value) c.self.view_is
    ∙ ap (map.insert c.args.self.now key) c.replace.ensures.after

pub invariant_of-self-in_err-copy : goal.invariant_of-self-in_err-copy
invariant_of-self-in_err-copy g c =
    let es = c.self.inside.slots.entries in
    let there = c.in-Some.entry.now in
    trees_same es (c.get_mut.follows.lender there).entries c.self.inside.others.entries c.self.inside.others.entries
    ((c.get_mut.follows.holds there).0 ∙ set_value_same (is_at (slot_cmp c.slot_of-slot.result)) es there (sym c.in-Some.ensures.value)) refl c.self.invariant

pub returns-in_err-copy-clause-err : goal.returns-in_err-copy-clause-err
returns-in_err-copy-clause-err g c =
    let es = c.self.inside.slots.entries in
    let there = c.in-Some.entry.now in
    let same = (c.get_mut.follows.holds there).0 ∙ set_value_same (is_at (slot_cmp c.slot_of-slot.result)) es there (sym c.in-Some.ensures.value) in
    at_err c.from_residual.result (ap (λ l. joined l c.self.inside.others.entries) same ∙ c.self.view_is)

pub invariant_of-self-in_err-insert : goal.invariant_of-self-in_err-insert
invariant_of-self-in_err-insert g c =
    let es = c.self.inside.slots.entries in
    let there = c.in-Some.entry.now in
    trees_same es (c.get_mut.follows.lender there).entries c.self.inside.others.entries c.insert.new.self.entries
    ((c.get_mut.follows.holds there).0 ∙ set_value_same (is_at (slot_cmp c.slot_of-slot.result)) es there (sym c.in-Some.ensures.value)) c.in_err-insert.ensures.err c.self.invariant

pub returns-in_err-insert-clause-err : goal.returns-in_err-insert-clause-err
returns-in_err-insert-clause-err g c =
    let es = c.self.inside.slots.entries in
    let there = c.in-Some.entry.now in
    let same = (c.get_mut.follows.holds there).0 ∙ set_value_same (is_at (slot_cmp c.slot_of-slot.result)) es there (sym c.in-Some.ensures.value) in
    at_err c.from_residual-in_err-insert.result (ap (λ l. joined l c.insert.new.self.entries) same ∙ ap (joined es) c.in_err-insert.ensures.err ∙ c.self.view_is)

pub invariant_of-self-in-Some : goal.invariant_of-self-in-Some
invariant_of-self-in-Some g c =
    let es = c.self.inside.slots.entries in
    let fs = c.self.inside.others.entries in
    let key = c.args.key.now in
    let there = c.in-Some.entry.now in
    let same = (c.get_mut.follows.holds there).0 ∙ set_value_same (is_at (slot_cmp c.slot_of-slot.result)) es there (sym c.in-Some.ensures.value) in
    trees_elsewhere es (c.get_mut.follows.lender there).entries fs c.insert.new.self.entries key c.args.value same
    (is_others es c.slot_of-slot.result key there c.eq.result c.slot_of-slot.ensures c.in-Some.ensures.value c.eq.ensures c.if-eq.false)
    (λ q. c.in_ok-insert.ensures.updates.0 q ∙ ap (λ k. cond (is_at (key_cmp k) q) (Some c.args.value) (value_at fs q)) c.in_ok-copy.ensures)
    c.self.invariant c.in_ok-insert.ensures.ordered

pub returns-in-Some-clause-before : goal.returns-in-Some-clause-before
returns-in-Some-clause-before g c =
    let es = c.self.inside.slots.entries in
    let fs = c.self.inside.others.entries in
    let key = c.args.key.now in
    from_others es fs c.args.self.now key c.in_ok-insert.field-0 c.self.view_is c.self.invariant.placed
    (is_others es c.slot_of-slot.result key c.in-Some.entry.now c.eq.result c.slot_of-slot.ensures c.in-Some.ensures.value c.eq.ensures c.if-eq.false)
    (c.in_ok-insert.ensures.old ∙ ap (value_at fs) c.in_ok-copy.ensures)

pub returns-in-Some-clause-ok : goal.returns-in-Some-clause-ok
returns-in-Some-clause-ok g c =
    let es = c.self.inside.slots.entries in
    let fs = c.self.inside.others.entries in
    let key = c.args.key.now in
    let there = c.in-Some.entry.now in
    let same = (c.get_mut.follows.holds there).0 ∙ set_value_same (is_at (slot_cmp c.slot_of-slot.result)) es there (sym c.in-Some.ensures.value) in
    elsewhere es (c.get_mut.follows.lender there).entries fs c.insert.new.self.entries key c.args.value same
    (is_others es c.slot_of-slot.result key there c.eq.result c.slot_of-slot.ensures c.in-Some.ensures.value c.eq.ensures c.if-eq.false)
    (λ q. c.in_ok-insert.ensures.updates.0 q ∙ ap (λ k. cond (is_at (key_cmp k) q) (Some c.args.value) (value_at fs q)) c.in_ok-copy.ensures)
    c.self.invariant.placed
    ∙ ap (λ m. map.insert m key c.args.value) c.self.view_is

pub invariant_of-self-2 : goal.invariant_of-self-2
invariant_of-self-2 g c =
    let es = c.self.inside.slots.entries in
    let es' = c.insert-2.new.self.entries in
    let key = c.args.key.now in
    let slot = c.slot_of-slot.result in
    let e = c.in_ok-insert-2.ensures in
    trees_taken es es' c.self.inside.others.entries c.remove.new.self.entries key c.args.value
    (taken_own es es' slot key c.in_ok-copied.copied c.args.value c.slot_of-slot.ensures c.in_ok-copied.ensures c.in_default.ensures.value
    (λ t. e.updates.0 t ∙ ap (λ m. cond (is_at (slot_cmp slot) t) (Some (c.in_ok-copied.copied, c.args.value)) (slot_at m.entries t)) c.get_mut.follows.holds-at-none))
    c.remove.ensures.updates.0 c.self.invariant
    (placed_inserted es es' slot key (c.in_ok-copied.copied, c.args.value) c.slot_of-slot.ensures c.in_ok-copied.ensures
    (e.entries ∙ ap (λ m. insert_entry slot_cmp m.entries slot (c.in_ok-copied.copied, c.args.value)) c.get_mut.follows.holds-at-none) c.self.invariant.placed e.ordered) c.remove.ensures.ordered

pub returns-clause-before : goal.returns-clause-before
returns-clause-before g c =
    let es = c.self.inside.slots.entries in
    let key = c.args.key.now in
    from_others es c.self.inside.others.entries c.args.self.now key c.remove.result c.self.view_is c.self.invariant.placed
    (is_free es c.slot_of-slot.result key c.slot_of-slot.ensures c.in_default.ensures.value)
    c.remove.ensures.value

pub returns-clause-ok : goal.returns-clause-ok
returns-clause-ok g c =
    let es = c.self.inside.slots.entries in
    let key = c.args.key.now in
    let slot = c.slot_of-slot.result in
    let e = c.in_ok-insert-2.ensures in
    taken es c.insert-2.new.self.entries c.self.inside.others.entries c.remove.new.self.entries slot key c.in_ok-copied.copied c.args.value
    c.slot_of-slot.ensures c.in_ok-copied.ensures c.in_default.ensures.value
    (λ t. e.updates.0 t ∙ ap (λ m. cond (is_at (slot_cmp slot) t) (Some (c.in_ok-copied.copied, c.args.value)) (slot_at m.entries t)) c.get_mut.follows.holds-at-none)
    c.remove.ensures.updates.0 c.self.invariant.placed
    (placed_inserted es c.insert-2.new.self.entries slot key (c.in_ok-copied.copied, c.args.value) c.slot_of-slot.ensures c.in_ok-copied.ensures
    (e.entries ∙ ap (λ m. insert_entry slot_cmp m.entries slot (c.in_ok-copied.copied, c.args.value)) c.get_mut.follows.holds-at-none) c.self.invariant.placed e.ordered)
    ∙ ap (λ m. map.insert m key c.args.value) c.self.view_is
