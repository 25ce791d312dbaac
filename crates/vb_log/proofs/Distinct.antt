-- Lists in which no two are equal, and sorted lists that rise.
use Rattle.std.specs.Prelude.{◌≡◌, ℕ, suc, ◌+◌, ◌<◌, nat_eq, nat_lt, Bool, true, false, cond, map as list_map, List, [], ◌∷◌, length, get_or, refl}
use Rattle.std.specs.declared.cmp.Ordering.{Ordering}
use Rattle.std.specs.declared.cmp.Ordering.TheVariants.{Less, Equal, Greater}
use Rattle.std.specs.Cmp.{IsTotalOrder}
use Rattle.std.specs.List.{AllByRecursion, AllAdjacentBelow, IsAllAdjacentAnswer, IsDistinct}
use Rattle.std.specs.List.Sorted.{IsSorted, IsSortedBy, IsStrictlySortedBy, IsPermutation}
use Rattle.std.specs.Ordering.{is_lt, is_eq, eq_by_cmp, ordering_reverse, nat_cmp}
use Rattle.std.proofs.Common.{sym, ap, ap₂, ◌∙◌, subst, arith}
use Rattle.std.proofs.lemmas.Bool.{ltb-true, eqb-true}
use Rattle.std.proofs.lemmas.List.{get_or-map, length-map, map-id}
use Rattle.std.proofs.lemmas.List.Sorted.{IsPermutation-map, IsPermutation-sym}
use Rattle.std.proofs.lemmas.Map.Keys.{apart_from_distinct, IsDistinct-from_sorted, IsDistinct-IsPermutation}
use Rattle.std.proofs.lemmas.Cmp.{eq_by_cmp_equiv, nat_cmp_total}

-- what is below something
less : (o : Ordering) → true ≡ is_lt o → o ≡ Less
less Less e = refl
less Equal e = absurd (cc)
less Greater e = absurd (cc)

module _ {X K : Type 0} {R : K → K → Ordering} (o : IsTotalOrder R) (key : X → K) where
  next : (k : ℕ) → suc k + 1 ≡ suc (k + 1)
  next k = omega arith

  -- what is below the first of some that rise is below all
  below : (a b : K) (ks : List K) → R a b ≡ Less → AllByRecursion (λ y. R b y ≡ Less) ks → AllByRecursion (λ y. R a y ≡ Less) ks
  below a b [] l h = tt
  below a b (k ∷ ks) l h = (o.trans a b k l h.0, below a b ks l h.1)

  -- each is below the next, so it is below all later ones
  pub rises : (xs : List X) → AllAdjacentBelow (λ x y. true ≡ is_lt (R (key x) (key y))) xs (length xs) → IsStrictlySortedBy R (list_map key xs)
  unfolding IsStrictlySortedBy
  rises [] h = tt
  rises (x ∷ []) h = (tt, tt)
  rises (x ∷ y ∷ ys) h =
      let rest = rises (y ∷ ys) (λ k d low. subst (λ n. true ≡ is_lt (R (key (get_or (y ∷ ys) k d)) (key (get_or (x ∷ y ∷ ys) n d)))) (next k) (h (suc k) d (omega arith))) in
      let first = less (R (key x) (key y)) (h 0 x (omega arith)) in
      ((first, below (key x) (key y) (list_map key ys) first rest.0), rest)

  -- of two that aren't equal, one is below the other
  one_below : (a b : K) → eq_by_cmp R a b ≡ false → is_lt (R b a) ≡ false → false ≡ is_lt (R a b) → ⊥
  one_below a b apart behind ahead = go (R a b) refl (R b a) (o.antisymm a b) apart behind ahead
    where
      go : (p : Ordering) → R a b ≡ p → (q : Ordering) → R a b ≡ ordering_reverse q → is_eq (R a b) ≡ false → is_lt q ≡ false → false ≡ is_lt (R a b) → ⊥
      go Less is q turned e f g = absurd (let z : false ≡ true = g ∙ ap is_lt is in cc)
      go Equal is q turned e f g = absurd (let z : true ≡ false = ap is_eq (sym is) ∙ e in cc)
      go Greater is Less turned e f g = absurd (cc)
      go Greater is Equal turned e f g = absurd (let z : Greater ≡ Equal = sym is ∙ turned in cc)
      go Greater is Greater turned e f g = absurd (let z : Greater ≡ Less = sym is ∙ turned in cc)

  -- where one of sorted ones isn't below the next, two are equal
  pub falls : (xs : List X) → IsSortedBy (λ x y. is_lt (R (key x) (key y))) xs → IsDistinct (eq_by_cmp R) (list_map key xs) → (k : ℕ) → k + 1 < length xs → ((d : X) → false ≡ is_lt (R (key (get_or xs k d)) (key (get_or xs (k + 1) d)))) → ⊥
  falls [] up apart k low ahead = omega arith
  falls (x ∷ xs) up apart k low ahead =
      let all : length (list_map key (x ∷ xs)) ≡ length (x ∷ xs) = length-map (x ∷ xs) key in
      let a : get_or (list_map key (x ∷ xs)) k (key x) ≡ key (get_or (x ∷ xs) k x) = get_or-map key (x ∷ xs) k x (key x) (omega arith) in
      let b : get_or (list_map key (x ∷ xs)) (k + 1) (key x) ≡ key (get_or (x ∷ xs) (k + 1) x) = get_or-map key (x ∷ xs) (k + 1) x (key x) low in
      let differ = apart_from_distinct (eq_by_cmp R) (list_map key (x ∷ xs)) k (k + 1) (key x) apart (omega arith) (omega arith) in
      one_below (key (get_or (x ∷ xs) k x)) (key (get_or (x ∷ xs) (k + 1) x)) (sym (ap₂ (eq_by_cmp R) a b) ∙ differ) (up k x (omega arith) low) (ahead x)

  pub distinct : (xs : List X) → AllAdjacentBelow (λ x y. true ≡ is_lt (R (key x) (key y))) xs (length xs) → IsDistinct (eq_by_cmp R) (list_map key xs)
  distinct xs h = IsDistinct-from_sorted R (list_map key xs) (rises xs h)

  -- what a test of neighbours tells, once they are sorted
  pub told : (xs sorted : List X) (r : Bool) → IsPermutation xs sorted → IsSortedBy (λ x y. is_lt (R (key x) (key y))) sorted → IsAllAdjacentAnswer (λ x y b. b ≡ is_lt (R (key x) (key y))) sorted r
      → (r ≡ true → IsDistinct (eq_by_cmp R) (list_map key xs)) × (IsDistinct (eq_by_cmp R) (list_map key xs) → r ≡ true)
  told xs sorted true moved up answer = (
    λ e. moved_back (list_map key xs) (list_map key sorted) (IsPermutation-map key xs sorted moved) (distinct sorted answer),
    λ apart. refl,
  )
    where
      moved_back : (ks ls : List K) → IsPermutation ks ls → IsDistinct (eq_by_cmp R) ls → IsDistinct (eq_by_cmp R) ks
      moved_back ks ls m h = let e = eq_by_cmp_equiv o in IsDistinct-IsPermutation (eq_by_cmp R) e.symm ls ks (IsPermutation-sym ks ls m) h
  told xs sorted false moved up answer = (
    λ e. absurd (let z : false ≡ true = e in cc),
    λ apart. absurd (falls sorted up (let e = eq_by_cmp_equiv o in IsDistinct-IsPermutation (eq_by_cmp R) e.symm (list_map key xs) (list_map key sorted) (IsPermutation-map key xs sorted moved) apart) answer.0 answer.1 answer.2),
  )

-- ---- numbers

lower : (a b : Bool) → is_lt (cond a Less (cond b Equal Greater)) ≡ a
lower true b = refl
lower false true = refl
lower false false = refl

-- the tests of numbers are those of their order
pub less_is : (x y : ℕ) → nat_lt x y ≡ is_lt (nat_cmp x y)
less_is x y = sym (lower (nat_lt x y) (nat_eq x y))

pub equal_is : (x y : ℕ) → eq_by_cmp nat_cmp x y ≡ nat_eq x y
equal_is x y = go (nat_lt x y) refl (nat_eq x y) refl
  where
    go : (a : Bool) → nat_lt x y ≡ a → (b : Bool) → nat_eq x y ≡ b → is_eq (cond a Less (cond b Equal Greater)) ≡ b
    go true l true e = absurd (let less = ltb-true x y l in let same = eqb-true x y e in omega arith)
    go true l false e = refl
    go false l true e = refl
    go false l false e = refl

pub numbers_told : (xs sorted : List ℕ) (r : Bool) → IsPermutation xs sorted → IsSorted nat_cmp sorted → IsAllAdjacentAnswer (λ x y b. b ≡ nat_lt x y) sorted r → (r ≡ true → IsDistinct nat_eq xs) × (IsDistinct nat_eq xs → r ≡ true)
numbers_told xs sorted r moved up answer =
    let both = told nat_cmp_total (λ x. x) xs sorted r moved up (subst (λ (t : ℕ → ℕ → Bool). IsAllAdjacentAnswer (λ x y b. b ≡ t x y) sorted r) (λ i x y. less_is x y i) answer) in (
      λ e. subst (IsDistinct nat_eq) (map-id xs) (distinct_by (eq_by_cmp nat_cmp) nat_eq (list_map (λ x. x) xs) equal_is (both.0 e)),
      λ apart. both.1 (distinct_by nat_eq (eq_by_cmp nat_cmp) (list_map (λ x. x) xs) (λ x y. sym (equal_is x y)) (subst (IsDistinct nat_eq) (sym (map-id xs)) apart)),
    )
  where
    distinct_by : (e f : ℕ → ℕ → Bool) (ks : List ℕ) → ((x y : ℕ) → e x y ≡ f x y) → IsDistinct e ks → IsDistinct f ks
    distinct_by e f ks same h = subst (λ (t : ℕ → ℕ → Bool). IsDistinct t ks) (λ i x y. same x y i) h

-- no two are equal, in whichever order they stand
pub distinct_moved : {K : Type 0} {R : K → K → Ordering} (o : IsTotalOrder R) (xs ys : List K) → IsPermutation xs ys → IsDistinct (eq_by_cmp R) xs → IsDistinct (eq_by_cmp R) ys
distinct_moved {R = R} o xs ys moved h = let e = eq_by_cmp_equiv o in IsDistinct-IsPermutation (eq_by_cmp R) e.symm xs ys moved h
