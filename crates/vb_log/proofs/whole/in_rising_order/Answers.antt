use Rattle.std.specs.List.{AllAdjacentBelow, IsDistinct}
use Rattle.std.specs.List.Sorted.{IsSortedBy}
use Rattle.std.specs.Ordering.{eq_by_cmp}
use Rattle.std.specs.Prelude.{true}
use Rattle.std.proofs.Common.{rules, ◌≡◌, List, length, sym, subst}
use Rattle.std.proofs.lemmas.List.Sorted.{IsPermutation-map, ranks_by, answers_always}
use Rattle.doc_model.specs.declared.document.Item.{Item}
use Rattle.doc_model.specs.Keys.{key_cmp}
use Rattle.doc_model.proofs.Entries.{keys_total}
use Rattle.vb_log.proofs.Distinct.{rises, falls, distinct_moved}
use Rattle.vb_log.proofs.Sorting.{before}
use Rattle.vb_log.proofs.Wholes.{item_keys, ordered}
use Rattle.vb_log.proofs.whole.in_rising_order.Goals as goal

pub returns-then-is_sorted_by : goal.returns-then-is_sorted_by
returns-then-is_sorted_by c =
    let sorted = c.sort_unstable_by.new.self.items in
    let adjacent : AllAdjacentBelow (λ x y. true ≡ before x y) sorted (length sorted) =
    subst (λ (l : List Item). AllAdjacentBelow (λ x y. true ≡ before x y) l (length l)) c.deref.ensures.value (c.if-is_sorted_by.ensures.cases before (answers_always _ _ _ (λ f a r g h. search rules))) in
    (c.sort_unstable_by.ensures.permutation, ordered sorted (rises keys_total (λ (i : Item). i.key) sorted adjacent))

pub returns-else-is_sorted_by : goal.returns-else-is_sorted_by
returns-else-is_sorted_by c = λ apart.
    let sorted = c.sort_unstable_by.new.self.items in
    let up : IsSortedBy before sorted = c.sort_unstable_by.ensures.sorted before (ranks_by keys_total (λ (i : Item). i.key)) (answers_always _ _ _ (λ f a r g h. search rules)) in
    let down = c.if-is_sorted_by.ensures.cases before (answers_always _ _ _ (λ f a r g h. search rules)) in
    let also = distinct_moved keys_total (item_keys c.args.items.items) (item_keys sorted) (IsPermutation-map (λ (i : Item). i.key) c.args.items.items sorted c.sort_unstable_by.ensures.permutation) apart in
    falls keys_total (λ (i : Item). i.key) c.deref.result.now (subst (IsSortedBy before) (sym c.deref.ensures.value) up) (subst (λ (l : List Item). IsDistinct (eq_by_cmp key_cmp) (item_keys l)) (sym c.deref.ensures.value) also) down.0 down.1 down.2
