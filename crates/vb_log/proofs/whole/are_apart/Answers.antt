use Rattle.std.specs.List.{IsAllAdjacentAnswer, IsDistinct}
use Rattle.std.specs.List.Sorted.{IsSortedBy}
use Rattle.std.specs.Ordering.{is_lt, eq_by_cmp}
use Rattle.std.proofs.Common.{rules, ◌≡◌, Bor, List, [], ◌∷◌, map as list_map, true, refl, ap, ◌∙◌, take_all, subst, arith}
use Rattle.std.proofs.lemmas.List.Sorted.{ranks_by, answers_always}
use Rattle.doc_model.specs.declared.key.DocKey.{DocKey}
use Rattle.doc_model.specs.Keys.{key_cmp}
use Rattle.doc_model.proofs.Entries.{keys_total}
use Rattle.vb_log.specs.declared.entry.Pending.{Pending}
use Rattle.vb_log.specs.Contents.{keys_waiting}
use Rattle.vb_log.proofs.Distinct.{told}
use Rattle.vb_log.proofs.whole.are_apart.Goals as goal

lent_keys : (lent : List (Bor Pending)) → list_map (λ (r : Bor Pending). r.now.key) lent ≡ keys_waiting (list_map (λ (r : Bor Pending). r.now) lent)
lent_keys [] = refl
lent_keys (r ∷ lent) = ap (λ l. r.now.key ∷ l) (lent_keys lent)

pub returns : goal.returns
returns c =
    let lent = c.loop-change.changes.items in
    let sorted = c.sort_unstable_by.new.self.items in
    let before = λ (a b : Bor Pending). is_lt (key_cmp a.now.key b.now.key) in
    let up : IsSortedBy before sorted = c.sort_unstable_by.ensures.sorted before (ranks_by keys_total (λ (r : Bor Pending). r.now.key)) (answers_always _ _ _ (λ f a r g h. search rules)) in
    let answer : IsAllAdjacentAnswer (λ x y b. b ≡ before x y) sorted c.is_sorted_by.result =
    subst (λ (l : List (Bor Pending)). IsAllAdjacentAnswer (λ x y b. b ≡ before x y) l c.is_sorted_by.result) c.deref.ensures.value (c.is_sorted_by.ensures.cases before (answers_always _ _ _ (λ f a r g h. search rules))) in
    let all : list_map (λ (r : Bor Pending). r.now.key) lent ≡ keys_waiting c.args.prepares.now =
    lent_keys lent ∙ ap keys_waiting (c.loop-change.invariant ∙ take_all c.loop-change.change-index c.args.prepares.now (omega arith)) in
    subst (λ (l : List DocKey). (c.is_sorted_by.result ≡ true → IsDistinct (eq_by_cmp key_cmp) l) × (IsDistinct (eq_by_cmp key_cmp) l → c.is_sorted_by.result ≡ true)) all
    (told keys_total (λ (r : Bor Pending). r.now.key) lent sorted c.is_sorted_by.result c.sort_unstable_by.ensures.permutation up answer)
