-- Names, of which no two are the same.
use Rattle.std.proofs.Common.{◌≡◌, ◌≢◌, ℕ, Bool, true, false, cond, not, ◌&&◌, ◌||◌, List, [], ◌∷◌, ◌++◌, refl, sym, ap, ap₂, ◌∙◌}
use Rattle.std.proofs.lemmas.List.{map-append}
use Rattle.std.proofs.lemmas.List.Folds.{list_any-append}
use Rattle.std.proofs.lemmas.Slice.Eq.{bytes_eq-Decides}
use Rattle.std.specs.Cmp.Lexicographic.{nat_list_eq_equiv}
use Rattle.std.specs.List.{list_any}
use Rattle.xattr_body.specs.Section.{Pair, same_name, are_distinct, names}

-- ---- tests

pub and_both : (a b : Bool) → (a && b) ≡ true → (a ≡ true) × (b ≡ true)
and_both true b h = (refl, h)
and_both false b h = cc

pub or_neither : (a b : Bool) → (a || b) ≡ false → (a ≡ false) × (b ≡ false)
or_neither true b h = cc
or_neither false b h = (refl, h)

pub not_true : (b : Bool) → not b ≡ true → b ≡ false
not_true true h = cc
not_true false h = refl

pub not_false : (b : Bool) → not b ≡ false → b ≡ true
not_false true h = refl
not_false false h = cc

pub from_both : (a b : Bool) → a ≡ true → b ≡ true → (a && b) ≡ true
from_both a b h k = ap₂ (λ x y. x && y) h k

-- ---- the same name

pub same_flips : (a b : List ℕ) → same_name a b ≡ same_name b a
same_flips = nat_list_eq_equiv.symm

pub same_is : (a b : List ℕ) → same_name a b ≡ true → a ≡ b
same_is a b = (bytes_eq-Decides a b).0

pub is_same : (a b : List ℕ) → a ≡ b → same_name a b ≡ true
is_same a b = (bytes_eq-Decides a b).1

pub not_same : (a b : List ℕ) → a ≢ b → same_name a b ≡ false
not_same a b n = by (same_name a b) refl
  where
    by : (r : Bool) → same_name a b ≡ r → r ≡ false
    by true e = absurd (n (same_is a b e))
    by false e = refl

-- ---- one more name

push : (xs : List (List ℕ)) (y : List ℕ) → are_distinct (xs ++ y ∷ []) ≡ (are_distinct xs && not (list_any (λ x. same_name x y) xs))
push [] y = refl
push (x ∷ xs) y =
    ap₂ (λ a b. not a && b) (list_any-append (same_name x) xs (y ∷ [])) (push xs y)
    ∙ apart (list_any (same_name x) xs) (same_name x y) (are_distinct xs) (list_any (λ z. same_name z y) xs)
  where
    apart : (a b c d : Bool) → (not (a || (b || false)) && (c && not d)) ≡ ((not a && c) && not (b || d))
    apart true b c d = refl
    apart false true true d = refl
    apart false true false d = refl
    apart false false c d = refl

flipped : (xs : List (List ℕ)) (y : List ℕ) → list_any (λ x. same_name x y) xs ≡ list_any (same_name y) xs
flipped [] y = refl
flipped (x ∷ xs) y = ap₂ (λ a b. a || b) (same_flips x y) (flipped xs y)

-- a name that isn't among others
pub distinct_push : (xs : List (List ℕ)) (y : List ℕ) → are_distinct (xs ++ y ∷ []) ≡ (are_distinct xs && not (list_any (same_name y) xs))
distinct_push xs y = push xs y ∙ ap (λ b. are_distinct xs && not b) (flipped xs y)

-- names that come first among distinct ones are distinct
pub distinct_front : (xs ys : List (List ℕ)) → are_distinct (xs ++ ys) ≡ true → are_distinct xs ≡ true
distinct_front [] ys h = refl
distinct_front (x ∷ xs) ys h =
    let both = and_both (not (list_any (same_name x) (xs ++ ys))) (are_distinct (xs ++ ys)) h in
    let neither = or_neither (list_any (same_name x) xs) (list_any (same_name x) ys) (sym (list_any-append (same_name x) xs ys) ∙ not_true (list_any (same_name x) (xs ++ ys)) both.0) in
    from_both (not (list_any (same_name x) xs)) (are_distinct xs) (ap not neither.0) (distinct_front xs ys both.1)

pub names-append : (a b : List Pair) → names (a ++ b) ≡ names a ++ names b
names-append a b = map-append (λ (p : Pair). p.0) a b

-- ---- the names that were seen

-- no two names are the same, and a set has them
pub record AreSeen (seen : List (List ℕ)) (has : List ℕ → Bool) : Type 0 where
  pub distinct : are_distinct seen ≡ true
  pub there : (q : List ℕ) → has q ≡ list_any (same_name q) seen

-- one that the set has comes twice
pub seen_twice : (seen : List (List ℕ)) (has : List ℕ → Bool) (y : List ℕ) → AreSeen seen has → has y ≡ true → are_distinct (seen ++ y ∷ []) ≡ false
seen_twice seen has y h here = distinct_push seen y ∙ ap₂ (λ a b. a && not b) h.distinct (sym (h.there y) ∙ here)

-- one that it hasn't is put into it
pub seen_once : (seen : List (List ℕ)) (has now : List ℕ → Bool) (y : List ℕ) → AreSeen seen has → has y ≡ false
    → ((q : List ℕ) → now q ≡ cond (same_name y q) true (has q)) → AreSeen (seen ++ y ∷ []) now
seen_once seen has now y h new updates = record {
  distinct = distinct_push seen y ∙ ap₂ (λ a b. a && not b) h.distinct (sym (h.there y) ∙ new);
  there = λ q.
      updates q ∙ ap₂ (λ a b. cond a true b) (same_flips y q) (h.there q) ∙ swapped (same_name q y) (list_any (same_name q) seen)
      ∙ sym (list_any-append (same_name q) seen (y ∷ []));
}
  where
    swapped : (a b : Bool) → cond a true b ≡ (b || (a || false))
    swapped true true = refl
    swapped true false = refl
    swapped false true = refl
    swapped false false = refl
