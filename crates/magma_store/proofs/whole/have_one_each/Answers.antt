use Rattle.std.specs.List.{IsAllAdjacentAnswer}
use Rattle.std.proofs.Common.{rules, ◌≡◌, ℕ, List, nat_lt, subst}
use Rattle.std.proofs.lemmas.List.Sorted.{answers_always}
use Rattle.vb_log.proofs.Distinct.{numbers_told}
use Rattle.magma_store.specs.Whole.{AreNumbersBehind}
use Rattle.magma_store.proofs.Going.{numbers_moved}
use Rattle.magma_store.proofs.whole.have_one_each.Goals as goal

pub returns : goal.returns
returns c =
    let numbers = c.add_seqnos.new.numbers.items in
    let sorted = c.sort_unstable.new.self.items in
    let answer : IsAllAdjacentAnswer (λ x y b. b ≡ nat_lt x y) sorted c.is_sorted_by.result =
    subst (λ (l : List ℕ). IsAllAdjacentAnswer (λ x y b. b ≡ nat_lt x y) l c.is_sorted_by.result) c.deref.ensures.value (c.is_sorted_by.ensures.cases nat_lt (answers_always _ _ _ (λ f a r g h. search rules))) in
    let told = numbers_told numbers sorted c.is_sorted_by.result c.sort_unstable.ensures.permutation c.sort_unstable.ensures.sorted answer in
    let moved = numbers_moved c.args.spots.now c.args.prepares.now numbers
    (subst (λ (l : List ℕ). AreNumbersBehind l c.args.spots.now numbers) c.in_ok-numbers.ensures c.in_ok-add_seqnos.ensures) in
    (λ yes. moved.0 (told.0 yes), λ apart. told.1 (moved.1 apart))
