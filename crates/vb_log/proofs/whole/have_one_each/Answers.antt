use Rattle.std.specs.List.{IsAllAdjacentAnswer, IsDistinct}
use Rattle.std.proofs.Common.{rules, ◌≡◌, ℕ, List, nat_eq, nat_lt, true, subst}
use Rattle.std.proofs.lemmas.List.Sorted.{answers_always}
use Rattle.vb_log.proofs.Distinct.{numbers_told}
use Rattle.vb_log.proofs.whole.have_one_each.Goals as goal

pub returns : goal.returns
returns c =
    let sorted = c.sort_unstable.new.self.items in
    let answer : IsAllAdjacentAnswer (λ x y b. b ≡ nat_lt x y) sorted c.is_sorted_by.result =
    subst (λ (l : List ℕ). IsAllAdjacentAnswer (λ x y b. b ≡ nat_lt x y) l c.is_sorted_by.result) c.deref.ensures.value (c.is_sorted_by.ensures.cases nat_lt (answers_always _ _ _ (λ f a r g h. search rules))) in
    subst (λ (l : List ℕ). (c.is_sorted_by.result ≡ true → IsDistinct nat_eq l) × (IsDistinct nat_eq l → c.is_sorted_by.result ≡ true)) c.in_ok-numbers.ensures
    (numbers_told c.in_ok-numbers.numbers.items sorted c.is_sorted_by.result c.sort_unstable.ensures.permutation c.sort_unstable.ensures.sorted answer)
