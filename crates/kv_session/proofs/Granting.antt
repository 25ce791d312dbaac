-- The features granted so far, and those of what is left of the list.
use Rattle.std.proofs.Common.{◌≡◌, ℕ, ◌+◌, ◌<◌, Bool, true, false, ◌||◌, nat_eq, List, [], ◌∷◌, ◌++◌, length, drop, slice_index, filter, if◌then◌else◌, refl, sym, ap, ◌∙◌, arith, append_assoc, drop-cons, add-one}
use Rattle.std.specs.List.{list_any}
use Rattle.std.proofs.lemmas.List.Folds.{list_any-append}
use Rattle.std.proofs.lemmas.Bool.Decides.{nat_tests}
use Rattle.kv_session.specs.Answers.{is_granted, each_once, granted}

-- both lists have the same numbers
abbrev SameNumbers : List ℕ → List ℕ → Type 0
SameNumbers before others = (code : ℕ) → list_any (nat_eq code) before ≡ list_any (nat_eq code) others

one_choice : (a b : Bool) (x y z w : List ℕ) → a ≡ b → x ≡ y → z ≡ w → (if a then x else z) ≡ (if b then y else w)
one_choice a b x y z w p q r = rw (p, q, r) refl

-- which numbers were there before is all that matters
each_once_same : (before others codes : List ℕ) → SameNumbers before others → each_once before codes ≡ each_once others codes
each_once_same before others [] same = refl
each_once_same before others (code ∷ codes) same =
    one_choice (list_any (nat_eq code) before) (list_any (nat_eq code) others) (each_once before codes) (each_once others codes) (code ∷ each_once (code ∷ before) codes) (code ∷ each_once (code ∷ others) codes)
    (same code)
    (each_once_same before others codes same)
    (ap (λ (l : List ℕ). code ∷ l) (each_once_same (code ∷ before) (code ∷ others) codes (λ other. ap (λ (b : Bool). nat_eq other code || b) (same other))))

or_false : (a b : Bool) → (a || b) ≡ (b || (a || false))
or_false true true = refl
or_false true false = refl
or_false false true = refl
or_false false false = refl

-- a number that is put in front is there as one that is put behind
behind_same : (code : ℕ) (codes : List ℕ) → SameNumbers (code ∷ codes) (codes ++ (code ∷ []))
behind_same code codes other = or_false (nat_eq other code) (list_any (nat_eq other) codes) ∙ sym (list_any-append (nat_eq other) codes (code ∷ []))

-- what is granted of a list with these codes granted before
abbrev pub with_left : List ℕ → List ℕ → List ℕ
with_left codes left = codes ++ each_once codes (filter is_granted left)

pub refused_next : (codes left : List ℕ) (code : ℕ) → is_granted code ≡ false → with_left codes (code ∷ left) ≡ with_left codes left
refused_next codes left code h = simp h

pub known_next : (codes left : List ℕ) (code : ℕ) → is_granted code ≡ true → list_any (nat_eq code) codes ≡ true → with_left codes (code ∷ left) ≡ with_left codes left
known_next codes left code h known = simp (h, known)

pub new_next : (codes left : List ℕ) (code : ℕ) → is_granted code ≡ true → list_any (nat_eq code) codes ≡ false → with_left codes (code ∷ left) ≡ with_left (codes ++ (code ∷ [])) left
new_next codes left code h unknown =
    let e : with_left codes (code ∷ left) ≡ codes ++ (code ∷ each_once (code ∷ codes) (filter is_granted left)) = simp (h, unknown) in
    e ∙ sym (append_assoc codes (code ∷ []) (each_once (code ∷ codes) (filter is_granted left)))
    ∙ ap (λ (l : List ℕ). (codes ++ (code ∷ [])) ++ l) (each_once_same (code ∷ codes) (codes ++ (code ∷ [])) (filter is_granted left) (behind_same code codes))

-- ---- a step over the list that is wanted

next_left : (wanted : List ℕ) (i : ℕ) → i < length wanted → drop i wanted ≡ slice_index wanted i ∷ drop (i + 1) wanted
next_left wanted i lt = rw (add-one, drop-cons wanted i 0) refl

pub refused_step : (wanted codes : List ℕ) (i : ℕ) → i < length wanted → is_granted (slice_index wanted i) ≡ false
    → granted wanted ≡ with_left codes (drop i wanted) → granted wanted ≡ with_left codes (drop (i + 1) wanted)
refused_step wanted codes i lt h e = e ∙ ap (with_left codes) (next_left wanted i lt) ∙ refused_next codes (drop (i + 1) wanted) (slice_index wanted i) h

pub known_step : (wanted codes : List ℕ) (i : ℕ) → i < length wanted → is_granted (slice_index wanted i) ≡ true → list_any (nat_eq (slice_index wanted i)) codes ≡ true
    → granted wanted ≡ with_left codes (drop i wanted) → granted wanted ≡ with_left codes (drop (i + 1) wanted)
known_step wanted codes i lt h known e = e ∙ ap (with_left codes) (next_left wanted i lt) ∙ known_next codes (drop (i + 1) wanted) (slice_index wanted i) h known

pub new_step : (wanted codes : List ℕ) (i : ℕ) → i < length wanted → is_granted (slice_index wanted i) ≡ true → list_any (nat_eq (slice_index wanted i)) codes ≡ false
    → granted wanted ≡ with_left codes (drop i wanted) → granted wanted ≡ with_left (codes ++ (slice_index wanted i ∷ [])) (drop (i + 1) wanted)
new_step wanted codes i lt h unknown e = e ∙ ap (with_left codes) (next_left wanted i lt) ∙ new_next codes (drop (i + 1) wanted) (slice_index wanted i) h unknown

-- the test of two numbers, in either order
one_answer : (p q : Bool) → (p ≡ true → q ≡ true) → (q ≡ true → p ≡ true) → p ≡ q
one_answer true q h k = sym (h refl)
one_answer false true h k = k refl
one_answer false false h k = refl

eq_true : (a b : ℕ) → nat_eq a b ≡ true → nat_eq b a ≡ true
eq_true a b h = let e : a ≡ b = grind (arith, nat_tests) in rw e (rw e at h)

eq_flipped : (a b : ℕ) → nat_eq a b ≡ nat_eq b a
eq_flipped a b = one_answer (nat_eq a b) (nat_eq b a) (eq_true a b) (eq_true b a)

pub found_flipped : (code : ℕ) (codes : List ℕ) → list_any (nat_eq code) codes ≡ list_any (λ other. nat_eq other code) codes
found_flipped code [] = refl
found_flipped code (other ∷ codes) = rw (eq_flipped code other, found_flipped code codes) refl
