-- What a binary search tells of ids from the least to the greatest.
use Rattle.std.specs.Prelude.{◌≡◌, ℕ, ◌<◌, ◌≤◌, false, nat_eq, List, length, Result, Ok, Err}
use Rattle.std.specs.List.{list_any}
use Rattle.std.specs.List.Sorted.{IsNonDecreasing, IsBinarySearchResult}
use Rattle.std.specs.Ordering.{nat_cmp}
use Rattle.std.specs.Result.{MatchResult, is_ok}
use Rattle.std.proofs.Common.{sym, arith, get_or, inl, inr, ◌⊎◌, eq-eqb}
use Rattle.std.proofs.lemmas.Bool.{ne_eqb, cases_lt}
use Rattle.std.proofs.lemmas.List.Elements.{All-from_get_or}
use Rattle.std.proofs.lemmas.List.Folds.{list_any_at, list_any_none}
use Rattle.std.proofs.lemmas.List.Sorted.{searched}

found : (ids : List ℕ) (id : ℕ) (r : Result ℕ ℕ) → MatchResult r (λ i. (i < length ids) × (get_or ids i 0 ≡ id)) (λ i. (i ≤ length ids) × ((k : ℕ) → k < i → get_or ids k 0 < id) × ((k : ℕ) → i ≤ k → k < length ids → id < get_or ids k 0))
    → is_ok r ≡ list_any (nat_eq id) ids
found ids id (Ok i) h = sym (list_any_at (nat_eq id) ids i 0 h.0 (eq-eqb id (get_or ids i 0) (sym h.1)))
found ids id (Err i) h = sym (list_any_none (nat_eq id) ids (All-from_get_or (λ x. nat_eq id x ≡ false) ids 0 (λ k within. ne_eqb id (get_or ids k 0) (λ same. by k within same (cases_lt k i)))))
  where
    by : (k : ℕ) → k < length ids → id ≡ get_or ids k 0 → (k < i) ⊎ (i ≤ k) → ⊥
    by k within same (inl low) = omega (arith, h.1 k low)
    by k within same (inr high) = omega (arith, h.2 k high within)

pub found_sorted : (ids : List ℕ) (id : ℕ) (r : Result ℕ ℕ) → IsBinarySearchResult (λ y. nat_cmp y id) ids r → IsNonDecreasing ids → is_ok r ≡ list_any (nat_eq id) ids
found_sorted ids id r h up = found ids id r (searched ids id r h (λ i j le within. up i j 0 le within))
