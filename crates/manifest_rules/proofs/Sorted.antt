-- Ids from the least to the greatest.
use Rattle.std.proofs.Common.{◌≡◌, ℕ, zero, suc, ◌+◌, ◌-◌, ◌<◌, ◌≤◌, ◌⊎◌, inl, inr, Bool, true, false, not, ◌&&◌, nat_eq, nat_lt, List, [], ◌∷◌, ◌++◌, length, get_or, Result, Ok, Err, Some, slice_get, refl, sym, ap, ◌∙◌, arith, eq-eqb}
use Rattle.std.proofs.lemmas.Bool.{and_parts, ne_eqb, cases_lt}
use Rattle.std.proofs.lemmas.List.Elements.{All-from_get_or, filter_agree}
use Rattle.std.proofs.lemmas.List.Folds.{list_any_at, list_any_none}
use Rattle.std.proofs.lemmas.List.Sorted.{searched, list_any-IsPermutation}
use Rattle.std.specs.List.{list_any}
use Rattle.std.specs.List.Sorted.{IsNonDecreasing, IsPermutation, IsBinarySearchResult}
use Rattle.std.specs.Ordering.{nat_cmp}
use Rattle.std.specs.Result.{MatchResult, is_ok}
use Rattle.manifest_rules.specs.Rules.{lost}
use Rattle.manifest_rules.specs.State.{are_rising}

-- ids rise with one more where it is greater than the last
rises_at : (xs : List ℕ) (n last id : ℕ) → n + 1 ≡ length xs → are_rising xs ≡ true → slice_get xs n ≡ Some last → nat_lt last id ≡ are_rising (xs ++ id ∷ [])
rises_at [] n last id len h e = absurd (omega arith)
rises_at (x ∷ []) (suc n) last id len h e = absurd (omega arith)
rises_at (x ∷ y ∷ more) zero last id len h e = absurd (omega arith)
rises_at (x ∷ []) zero last id len h e = ap (λ v. nat_lt v id) (sym (is x last e)) ∙ same (nat_lt x id)
  where
    is : (a b : ℕ) → Some a ≡ Some b → a ≡ b
    is a b p = cc

    same : (b : Bool) → b ≡ (b && true)
    same true = refl
    same false = refl
rises_at (x ∷ y ∷ more) (suc n) last id len h e =
    let parts = and_parts (nat_lt x y) (are_rising (y ∷ more)) h in
    let less : n + 1 ≡ length (y ∷ more) = omega arith in
    rises_at (y ∷ more) n last id less parts.1 e ∙ ap (λ b. b && are_rising (y ∷ more ++ id ∷ [])) (sym parts.0)

pub rises_last : (xs : List ℕ) (last id : ℕ) → are_rising xs ≡ true → slice_get xs (length xs - 1) ≡ Some last → nat_lt last id ≡ are_rising (xs ++ id ∷ [])
rises_last [] last id h e = absurd cc
rises_last (x ∷ xs) last id h e = rises_at (x ∷ xs) (length (x ∷ xs) - 1) last id (omega arith) h e

-- the ids that are lost to others are lost to them in any order
pub lost_sorted : (ids others sorted : List ℕ) → IsPermutation others sorted → lost ids sorted ≡ lost ids others
lost_sorted ids others sorted moved =
    filter_agree (λ id. not (list_any (nat_eq id) sorted)) (λ id. not (list_any (nat_eq id) others)) (λ id. ap not (sym (list_any-IsPermutation (nat_eq id) others sorted moved))) ids
