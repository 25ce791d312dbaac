-- Places that pass tests, counted.
use Rattle.std.specs.Prelude.{zero, suc, nat_eq, is_some, get_or, drop, ◌&&◌, count_by}
use Rattle.std.specs.List.{list_any}
use Rattle.std.proofs.Common.{◌≡◌, ℕ, ◌+◌, ◌<◌, ◌≤◌, Bool, true, false, cond, List, [], ◌∷◌, length}
use Rattle.std.proofs.Common.{Option, Some, None, refl, sym, ◌∙◌, ap, add-one, drop-cons, arith}
use Rattle.std.proofs.lemmas.List.{get_or_past, drop_all}
use Rattle.std.proofs.lemmas.List.Sums.{sum_by-cons, count_by-le-length}
use Rattle.std.proofs.lemmas.Bool.{or_left, or_right, leb-true, le-leb}
use Rattle.std.proofs.lemmas.Bool.Decides.{nat_tests}
use Rattle.durability_core.specs.declared.chain.Chain.{Chain}
use Rattle.durability_core.specs.Chains.{majority, places_from, named_places, place_count}
use Rattle.durability_core.specs.Ready.{most_pass, can_commit}

-- ---- lists of places

abbrev pub one_if : Bool → ℕ
one_if b = cond b 1 0

-- a place of a list that passes both of two tests
abbrev pub Shared : (ℕ → Bool) → (ℕ → Bool) → List ℕ → Type 0
Shared p q places =
    (place : ℕ) × (list_any (nat_eq place) places ≡ true) × (p place ≡ true) × (q place ≡ true)

one_at_most : (b : Bool) → one_if b ≤ 1
one_at_most true = omega arith
one_at_most false = omega arith

counted : (p : ℕ → Bool) (x : ℕ) (xs : List ℕ)
    → count_by p (x ∷ xs) ≡ one_if (p x) + count_by p xs
counted p x xs = sum_by-cons (λ y. cond (p y) 1 0) x xs

itself : (n : ℕ) → nat_eq n n ≡ true
itself n = grind (arith, nat_tests)

further : (p q : ℕ → Bool) (x : ℕ) (xs : List ℕ) → Shared p q xs → Shared p q (x ∷ xs)
further p q x xs s = (s.0, or_right (nat_eq s.0 x) (list_any (nat_eq s.0) xs) s.1, s.2, s.3)

-- where more pass two tests than there are places, one passes both
pub meet : (p q : ℕ → Bool) (xs : List ℕ) → length xs < count_by p xs + count_by q xs
    → Shared p q xs
meet p q [] l = absurd (omega arith)
meet p q (x ∷ xs) l = go (p x) (q x) refl refl (meet p q xs)
  where
    more : (a b : Bool) → p x ≡ a → q x ≡ b → one_if a + one_if b ≤ 1
        → length xs < count_by p xs + count_by q xs
    more a b e f few =
        omega (arith, l, counted p x xs, counted q x xs, ap one_if e, ap one_if f, few)

    go : (a b : Bool) → p x ≡ a → q x ≡ b
        → (length xs < count_by p xs + count_by q xs → Shared p q xs) → Shared p q (x ∷ xs)
    go true true e f rest = (x, or_left (nat_eq x x) (list_any (nat_eq x) xs) (itself x), e, f)
    go true false e f rest = further p q x xs (rest (more true false e f (omega arith)))
    go false true e f rest = further p q x xs (rest (more false true e f (omega arith)))
    go false false e f rest = further p q x xs (rest (more false false e f (omega arith)))

less_one : (b c : Bool) → (b ≡ true → c ≡ true) → one_if b ≤ one_if c
less_one true c h = rw (h refl) (omega arith)
less_one false c h = omega arith

-- where what passes one test passes another, no more pass the first
count_more : (p q : ℕ → Bool) → ((x : ℕ) → p x ≡ true → q x ≡ true) → (xs : List ℕ)
    → count_by p xs ≤ count_by q xs
count_more p q h [] = omega arith
count_more p q h (x ∷ xs) =
    let here = less_one (p x) (q x) (h x) in
    omega (arith, counted p x xs, counted q x xs, here, count_more p q h xs)

-- no more places have a name than there are
named_few : (at : ℕ) (names : List (Option (List ℕ))) → length (places_from at names) ≤ length names
named_few at [] = omega arith
named_few at (None ∷ names) = omega (arith, named_few (at + 1) names)
named_few at (Some name ∷ names) = omega (arith, named_few (at + 1) names)

counted_name : (x : Option (List ℕ)) (xs : List (Option (List ℕ)))
    → count_by is_some (x ∷ xs) ≡ one_if (is_some x) + count_by is_some xs
counted_name x xs = sum_by-cons (λ (y : Option (List ℕ)). cond (is_some y) 1 0) x xs

-- as many places have a name as names are there
pub named_length : (at : ℕ) (names : List (Option (List ℕ)))
    → count_by is_some names ≡ length (places_from at names)
named_length at [] = refl
named_length at (None ∷ names) =
    omega (arith, counted_name None names, named_length (at + 1) names)
named_length at (Some name ∷ names) =
    omega (arith, counted_name (Some name) names, named_length (at + 1) names)

-- no place is named before the first
none_before : (n at : ℕ) (names : List (Option (List ℕ))) → n < at
    → list_any (nat_eq n) (places_from at names) ≡ false
none_before n at [] l = refl
none_before n at (None ∷ names) l = none_before n (at + 1) names (omega arith)
none_before n at (Some name ∷ names) l =
    let other : nat_eq n at ≡ false = grind (arith, nat_tests) in
    rw other (none_before n (at + 1) names (omega arith))

-- a place is named exactly where the name so far on is there
pub named_there : (n at place : ℕ) (names : List (Option (List ℕ))) → n ≡ at + place
    → list_any (nat_eq n) (places_from at names) ≡ is_some (get_or names place None)
named_there n at place [] e = refl
named_there n at zero (None ∷ names) e = none_before n (at + 1) names (omega arith)
named_there n at (suc place) (None ∷ names) e =
    named_there n (at + 1) place names (omega arith)
named_there n at zero (Some name ∷ names) e =
    let here : nat_eq n at ≡ true = grind (arith, nat_tests) in
    rw here refl
named_there n at (suc place) (Some name ∷ names) e =
    let other : nat_eq n at ≡ false = grind (arith, nat_tests) in
    rw other (named_there n (at + 1) place names (omega arith))

-- a name that was read tells whether its place is named
pub named_read : (n : ℕ) (names : List (Option (List ℕ))) (x : Option (List ℕ))
    → x ≡ get_or names n None → is_some x ≡ list_any (nat_eq n) (places_from 0 names)
named_read n names x e = ap is_some e ∙ sym (named_there n 0 n names (omega arith))

-- a place behind the last isn't named
pub named_past : (n : ℕ) (names : List (Option (List ℕ))) → length names ≤ n
    → list_any (nat_eq n) (places_from 0 names) ≡ false
named_past n names l =
    named_there n 0 n names (omega arith) ∙ ap is_some (get_or_past names n None l)

-- ---- places counted one after the other

-- how many of the places from one on are named and pass a test
abbrev pub counted_from : (ℕ → Bool) → ℕ → List (Option (List ℕ)) → ℕ
counted_from p at names = count_by p (places_from at (drop at names))

first_counted : (p : ℕ → Bool) (at : ℕ) (x : Option (List ℕ)) (names : List (Option (List ℕ)))
    → count_by p (places_from at (x ∷ names))
    ≡ one_if (is_some x && p at) + count_by p (places_from (at + 1) names)
first_counted p at None names = omega arith
first_counted p at (Some name) names = counted p at (places_from (at + 1) names)

-- So many are counted before a place, and the others from it on make up all.
pub record CountedTo (p : ℕ → Bool) (names : List (Option (List ℕ))) (count at : ℕ) : Type 0 where
  pub all : count + counted_from p at names ≡ count_by p (places_from 0 names)
  pub few : count ≤ at

-- one more place is counted, or isn't
pub counted_more : (p : ℕ → Bool) (names : List (Option (List ℕ))) (count next at : ℕ)
    (x : Option (List ℕ)) (passes : Bool) → at < length names → x ≡ get_or names at x
    → passes ≡ (is_some x && p at) → next ≡ count + one_if passes → CountedTo p names count at
    → CountedTo p names next (at + 1)
counted_more p names count next at x passes l e f g so_far =
    let cut : drop at names ≡ get_or names at x ∷ drop (at + 1) names =
    rw add-one (drop-cons names at x l) in
    let split = first_counted p at (get_or names at x) (drop (at + 1) names) in
    let same : one_if (is_some x && p at) ≡ one_if (is_some (get_or names at x) && p at) =
    ap (λ (y : Option (List ℕ)). one_if (is_some y && p at)) e in
    let here : one_if passes ≡ one_if (is_some x && p at) = ap one_if f in
    let whole : counted_from p at names
    ≡ count_by p (places_from at (get_or names at x ∷ drop (at + 1) names)) =
    ap (λ (ns : List (Option (List ℕ))). count_by p (places_from at ns)) cut in
    record {
      all = omega (arith, so_far.all, split, same, here, whole, g);
      few = omega (arith, so_far.few, one_at_most passes, g);
    }

-- all places are counted
pub counted_all : (p : ℕ → Bool) (names : List (Option (List ℕ))) (count at : ℕ)
    → length names ≤ at → CountedTo p names count at → count ≡ count_by p (places_from 0 names)
counted_all p names count at l so_far =
    let none : drop at names ≡ [] = drop_all at names l in
    omega (arith, so_far.all, ap (λ (ns : List (Option (List ℕ))). count_by p (places_from at ns)) none)

-- ---- chains

module _ (chain : Chain) where
  pub few_named : length (named_places chain) ≤ place_count chain
  few_named = named_few 0 chain.names

  pub most : (p : ℕ → Bool) → most_pass chain p ≡ true
      → majority (place_count chain) ≤ count_by p (named_places chain)
  most p e = leb-true (majority (place_count chain)) (count_by p (named_places chain)) e

  pub most_meet : (p q : ℕ → Bool) → most_pass chain p ≡ true → most_pass chain q ≡ true
      → Shared p q (named_places chain)
  most_meet p q e f = meet p q (named_places chain) (omega (arith, most p e, most q f, few_named))

  pub most_more : (p q : ℕ → Bool) → ((x : ℕ) → p x ≡ true → q x ≡ true)
      → most_pass chain p ≡ true → most_pass chain q ≡ true
  most_more p q h e =
      le-leb (majority (place_count chain)) (count_by q (named_places chain))
      (omega (arith, most p e, count_more p q h (named_places chain)))

  pub most_can : (p : ℕ → Bool) → most_pass chain p ≡ true → can_commit chain ≡ true
  most_can p e =
      le-leb (majority (place_count chain)) (length (named_places chain))
      (omega (arith, most p e, count_by-le-length p (named_places chain)))
