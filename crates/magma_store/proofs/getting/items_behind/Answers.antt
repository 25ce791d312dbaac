use Rattle.std.proofs.Common.{rules, ◌∙◌, sym, subst}
use Rattle.std.proofs.lemmas.List.Sorted.{All-permutation, IsNonDecreasingBy-from_sort_by_key}
use Rattle.std.proofs.lemmas.List.Elements.{All-from_recursion, recursion_from_All}
use Rattle.doc_model.specs.declared.document.Item.{Item}
use Rattle.doc_model.specs.Values.{AreValues}
use Rattle.vb_log.specs.Stored.{IsStorable}
use Rattle.magma_store.specs.Gotten.{AllStand}
use Rattle.magma_store.specs.Store.{behind}
use Rattle.magma_store.proofs.Gathered.{gathers}
use Rattle.magma_store.proofs.getting.items_behind.Goals as goal

-- src/getting.rt:87:1
pub returns-clause-found : goal.returns-clause-found
returns-clause-found g c = λ items end lead small.
    let spots = c.in_ok-found.ensures in
    let all = gathers c.args.seqno (g.D.Disk.states c.args.disk.now) c.args.spots.now items end spots.values lead small spots.are in
    let stand = subst (λ l. AllStand l all.found (g.D.Disk.states c.args.disk.now)) (sym (c.deref.ensures.value ∙ spots.only)) all.stand in
    record {
      values = c.in_ok-items.items.items;
      are = subst (AreValues (behind c.args.seqno items)) (sym (c.in_ok-items.ensures.found all.found stand)) all.are;
      moved = c.sort_unstable_by_key.ensures.permutation;
      rise = IsNonDecreasingBy-from_sort_by_key (λ (i : Item). i.seqno) c.sort_unstable_by_key.new.self.items c.sort_unstable_by_key.ensures.sorted (λ a r h. search rules);
    }

-- src/getting.rt:87:1
pub returns-clause-storable : goal.returns-clause-storable
returns-clause-storable g c =
    recursion_from_All IsStorable c.sort_unstable_by_key.new.self.items
    (All-permutation IsStorable c.in_ok-items.items.items c.sort_unstable_by_key.new.self.items c.sort_unstable_by_key.ensures.permutation
    (All-from_recursion IsStorable c.in_ok-items.items.items c.in_ok-items.ensures.storable))
