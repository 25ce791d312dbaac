use Rattle.std.proofs.Common.{rules, ◌≡◌, map as list_map, sym, subst}
use Rattle.std.proofs.lemmas.List.Sorted.{IsPermutation-map, ranks_by, answers_always}
use Rattle.doc_model.specs.Values.{AreValues}
use Rattle.doc_model.proofs.Entries.{keys_total}
use Rattle.vb_log.proofs.Sorting.{before, sorted_values, sorted_now}
use Rattle.vb_log.proofs.ordering.in_order.Goals as goal

pub returns : goal.returns
returns c = λ m v at.
    let items = list_map (λ i. i.now) c.in_ok-items.items.items in
    let sorted = list_map (λ i. i.now) c.sort_unstable_by.new.self.items in
    sorted_values m items sorted (subst (AreValues m) (sym c.in_ok-items.ensures) v) at
    (IsPermutation-map (λ i. i.now) c.in_ok-items.items.items c.sort_unstable_by.new.self.items c.sort_unstable_by.ensures.permutation)
    (sorted_now c.sort_unstable_by.new.self.items
    (c.sort_unstable_by.ensures.sorted (λ a b. before a.now b.now) (ranks_by keys_total (λ r. r.now.key)) (answers_always _ _ _ (λ f a r g h. search rules))))
