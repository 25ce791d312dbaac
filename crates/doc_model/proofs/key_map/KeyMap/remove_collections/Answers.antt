use Rattle.std.proofs.Common.{not, ap, ◌∙◌}
use Rattle.std.specs.Map.{values_of}
use Rattle.doc_model.specs.Keys.{is_among_ids, is_in}
use Rattle.doc_model.proofs.Freed.{placed_kept, values_kept, both_kept}
use Rattle.doc_model.proofs.Apart.{trees_kept}
use Rattle.doc_model.proofs.key_map.KeyMap.remove_collections.Goals as goal

pub invariant_of-self : goal.invariant_of-self
invariant_of-self g c =
    let es = c.self.inside.slots.entries in
    let h = c.self.invariant in
    trees_kept (λ key. not (is_in c.args.collections.now key)) es c.remove_slots.new.slots.entries c.self.inside.others.entries c.remove_others.new.others.entries
    (ap values_of c.remove_slots.ensures ∙ values_kept (λ id. not (is_among_ids c.args.collections.now id)) es h.placed.placed) c.remove_others.ensures h
    (placed_kept (λ s. not (is_among_ids c.args.collections.now s.collection)) es c.remove_slots.new.slots.entries c.remove_slots.ensures h.placed)

pub returns : goal.returns
returns g c =
    both_kept (λ id. not (is_among_ids c.args.collections.now id)) c.self.inside.slots.entries c.remove_slots.new.slots.entries c.self.inside.others.entries c.remove_others.new.others.entries c.args.self.now
    c.self.invariant.placed c.self.view_is c.remove_slots.ensures c.remove_others.ensures
