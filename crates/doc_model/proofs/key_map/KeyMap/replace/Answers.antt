use Rattle.std.specs.Prelude.{Some, is_some, cond, ◌&&◌}
use Rattle.std.specs.BTreeMap.{is_at}
use Rattle.std.specs.FinMap as map
use Rattle.std.proofs.Common.{sym, ◌∙◌, ap}
use Rattle.std.proofs.lemmas.Map.Steps.{set_value_same}
use Rattle.doc_model.specs.Keys.{key_cmp}
use Rattle.doc_model.specs.Slots.{slot_cmp}
use Rattle.doc_model.proofs.Entries.{value_at}
use Rattle.doc_model.proofs.Slots.{from_slot, from_others, told_same, is_its, is_free, is_others, placed_set, replaced_own, replaced}
use Rattle.doc_model.proofs.Apart.{Elsewhere, trees_replaced, trees_other, other_replaced}
use Rattle.doc_model.proofs.key_map.KeyMap.replace.Given as given
use Rattle.doc_model.proofs.key_map.KeyMap.replace.Goals as goal
use Rattle.doc_model.proofs.key_map.KeyMap.replace.Goals.{in-Some+else-eq, in_default}

pub invariant_of-self : goal.invariant_of-self
invariant_of-self g c =
    let es = c.self.inside.slots.entries in
    let fs = c.self.inside.others.entries in
    let key = c.args.key.now in
    let there = c.in-Some.entry.now in
    let value = c.replace.new.dest in
    let es' = (c.get_mut.follows.lender (there.0, value)).entries in
    let w = c.get_mut.follows.holds (there.0, value) in
    let same = told_same there.0 key c.eq.result c.eq.ensures c.if-eq.true in
    trees_replaced es es' fs key there.1 value (is_its es c.slot_of.result key there c.slot_of.ensures c.in-Some.ensures.value same)
    (replaced_own es es' c.slot_of.result key there value c.slot_of.ensures same c.in-Some.ensures.value (w.3 (ap is_some (sym c.in-Some.ensures.value))).0)
    c.self.invariant (placed_set es es' c.slot_of.result key (there.0, value) c.slot_of.ensures same w.0 c.self.invariant.placed w.4)

pub returns-then-eq-clause-before : goal.returns-then-eq-clause-before
returns-then-eq-clause-before g c =
    let es = c.self.inside.slots.entries in
    let key = c.args.key.now in
    let there = c.in-Some.entry.now in
    ap (λ v. Some v) c.replace.ensures.value
    ∙ from_slot es c.self.inside.others.entries c.args.self.now key there.1 c.self.view_is c.self.invariant.placed
    (is_its es c.slot_of.result key there c.slot_of.ensures c.in-Some.ensures.value (told_same there.0 key c.eq.result c.eq.ensures c.if-eq.true))

pub returns-then-eq-clause-replaced : goal.returns-then-eq-clause-replaced
returns-then-eq-clause-replaced g c =
    let es = c.self.inside.slots.entries in
    let fs = c.self.inside.others.entries in
    let key = c.args.key.now in
    let there = c.in-Some.entry.now in
    let value = c.replace.new.dest in
    let es' = (c.get_mut.follows.lender (there.0, value)).entries in
    let w = c.get_mut.follows.holds (there.0, value) in
    let same = told_same there.0 key c.eq.result c.eq.ensures c.if-eq.true in
    let has = from_slot es fs c.args.self.now key there.1 c.self.view_is c.self.invariant.placed (is_its es c.slot_of.result key there c.slot_of.ensures c.in-Some.ensures.value same) in
    replaced es es' fs c.slot_of.result key there value c.slot_of.ensures same c.in-Some.ensures.value
    (w.3 (ap is_some (sym c.in-Some.ensures.value))).0 c.self.invariant.placed
    (placed_set es es' c.slot_of.result key (there.0, value) c.slot_of.ensures same w.0 c.self.invariant.placed w.4)
    ∙ ap (λ m. map.insert m key value) c.self.view_is
    ∙ ap (map.insert c.args.self.now key) c.replace.ensures.after
    ∙ ap (λ o. cond (is_some o) (map.insert c.args.self.now key c.args.value) c.args.self.now) has

-- its slot is another's or free, and stays so
elsewhere : (g : given.Over) (c : goal.After-replace_other g) → Elsewhere c.self.inside.slots.entries c.match-get_mut.self-inside.slots.entries c.self.inside.others.entries c.match-get_mut.self-inside.others.entries c.args.key.now
elsewhere g c =
    let es = c.self.inside.slots.entries in
    elim c.match-get_mut.branch [
      | in-Some+else-eq w ↦
          let there = w.in-Some.entry.now in
          record {
            slots = ap (λ i. i.slots.entries) w.self-inside-is ∙ (c.get_mut.follows.holds there).0 ∙ set_value_same (is_at (slot_cmp c.slot_of.result)) es there (sym w.in-Some.ensures.value);
            others = ap (λ i. i.others.entries) w.self-inside-is;
            free = is_others es c.slot_of.result c.args.key.now there w.eq.result c.slot_of.ensures w.in-Some.ensures.value w.eq.ensures w.if-eq.false;
          }
      | in_default w ↦ record {
        slots = ap (λ i. i.slots.entries) w.self-inside-is ∙ ap (λ m. m.entries) c.get_mut.follows.holds-at-none;
        others = ap (λ i. i.others.entries) w.self-inside-is;
        free = is_free es c.slot_of.result c.args.key.now c.slot_of.ensures w.in_default.ensures.value;
      }
    ]

pub invariant_of-self-2 : goal.invariant_of-self-2
invariant_of-self-2 g c =
    let e = elsewhere g c in
    let fs = c.self.inside.others.entries in
    trees_other c.self.inside.slots.entries c.match-get_mut.self-inside.slots.entries fs c.replace_other.new.others.entries c.args.key.now c.args.value (is_some c.replace_other.result) e.slots e.free
    (λ q. c.replace_other.ensures.replaced q ∙ ap (λ l. cond (is_some c.replace_other.result && is_at (key_cmp c.args.key.now) q) (Some c.args.value) (value_at l q)) e.others)
    c.self.invariant c.replace_other.ensures.ordered

pub returns-clause-before : goal.returns-clause-before
returns-clause-before g c =
    let e = elsewhere g c in
    from_others c.self.inside.slots.entries c.self.inside.others.entries c.args.self.now c.args.key.now c.replace_other.result c.self.view_is c.self.invariant.placed e.free
    (c.replace_other.ensures.before ∙ ap (λ l. value_at l c.args.key.now) e.others)

pub returns-clause-replaced : goal.returns-clause-replaced
returns-clause-replaced g c =
    other_replaced c.self.inside.slots.entries c.match-get_mut.self-inside.slots.entries c.self.inside.others.entries c.match-get_mut.self-inside.others.entries c.replace_other.new.others.entries
    c.args.key.now c.args.value c.replace_other.result c.args.self.now (elsewhere g c) c.self.view_is c.self.invariant.placed c.replace_other.ensures.before c.replace_other.ensures.replaced
