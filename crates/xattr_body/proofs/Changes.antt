-- What a put and a removal leave.
use Rattle.std.proofs.Common.{◌≡◌, ◌≢◌, ℕ, ◌≤◌, Bool, true, false, cond, not, ◌||◌, filter, List, [], ◌∷◌, ◌++◌, length, Option, Some, None, refl, sym, ap, ap₂, subst, ◌∙◌, length-append, arith}
use Rattle.std.proofs.lemmas.List.Elements.{All-head, All-tail, All-nil, All-cons}
use Rattle.std.specs.List.{All, list_any}
use Rattle.xattr_body.specs.Section.{Pair, same_name, are_distinct, names, IsPair, ArePairs, pair_bytes, pairs_bytes, HaveSection}
use Rattle.xattr_body.specs.Edits.{value_of, with_pair, without}
use Rattle.xattr_body.proofs.Names.{and_both, or_neither, not_true, from_both, same_flips, same_is, is_same, not_same, distinct_push, names-append}

if_true : {A : Type 0} (b : Bool) (x y : A) → b ≡ true → cond b x y ≡ x
if_true b x y e = ap (λ c. cond c x y) e

if_false : {A : Type 0} (b : Bool) (x y : A) → b ≡ false → cond b x y ≡ y
if_false b x y e = ap (λ c. cond c x y) e

abbrev pub some : List ℕ → Option (List ℕ)
some value = Some value

abbrev pub none : Option (List ℕ)
none = None

-- ---- a put

pub put_in : (name value : List ℕ) (p : Pair) (ps : List Pair) → same_name p.0 name ≡ true → with_pair name value (p ∷ ps) ≡ (p.0, value) ∷ ps
put_in name value p ps e = if_true (same_name p.0 name) ((p.0, value) ∷ ps) (p ∷ with_pair name value ps) e

pub put_past : (name value : List ℕ) (p : Pair) (ps : List Pair) → same_name p.0 name ≡ false → with_pair name value (p ∷ ps) ≡ p ∷ with_pair name value ps
put_past name value p ps e = if_false (same_name p.0 name) ((p.0, value) ∷ ps) (p ∷ with_pair name value ps) e

pub found : (name : List ℕ) (p : Pair) (ps : List Pair) → same_name p.0 name ≡ true → value_of name (p ∷ ps) ≡ some p.1
found name p ps e = if_true (same_name p.0 name) (some p.1) (value_of name ps) e

pub passed : (name : List ℕ) (p : Pair) (ps : List Pair) → same_name p.0 name ≡ false → value_of name (p ∷ ps) ≡ value_of name ps
passed name p ps e = if_false (same_name p.0 name) (some p.1) (value_of name ps) e

pub put_its : (name value : List ℕ) (pairs : List Pair) → value_of name (with_pair name value pairs) ≡ some value
put_its name value [] = found name (name, value) [] (is_same name name refl)
put_its name value (p ∷ ps) = by (same_name p.0 name) refl (put_its name value ps)
  where
    by : (b : Bool) → same_name p.0 name ≡ b → value_of name (with_pair name value ps) ≡ some value → value_of name (with_pair name value (p ∷ ps)) ≡ some value
    by true e rest = ap (value_of name) (put_in name value p ps e) ∙ found name (p.0, value) ps e
    by false e rest = ap (value_of name) (put_past name value p ps e) ∙ passed name p (with_pair name value ps) e ∙ rest

-- another name than that of a pair which has this one
other_than : (name other : List ℕ) (p : Pair) → other ≢ name → same_name p.0 name ≡ true → same_name p.0 other ≡ false
other_than name other p n e = not_same p.0 other (λ h. n (sym h ∙ same_is p.0 name e))

pub put_others : (name value other : List ℕ) (pairs : List Pair) → other ≢ name → value_of other (with_pair name value pairs) ≡ value_of other pairs
put_others name value other [] n = passed other (name, value) [] (not_same name other (λ h. n (sym h)))
put_others name value other (p ∷ ps) n = by (same_name p.0 name) refl (put_others name value other ps n)
  where
    by : (b : Bool) → same_name p.0 name ≡ b → value_of other (with_pair name value ps) ≡ value_of other ps → value_of other (with_pair name value (p ∷ ps)) ≡ value_of other (p ∷ ps)
    by true e rest =
        let past = other_than name other p n e in
        ap (value_of other) (put_in name value p ps e) ∙ passed other (p.0, value) ps past ∙ sym (passed other p ps past)
    by false e rest =
        ap (value_of other) (put_past name value p ps e) ∙ ap (λ (r : Option (List ℕ)). cond (same_name p.0 other) (some p.1) r) rest

pub put_in_place : (name value old : List ℕ) (pairs : List Pair) → value_of name pairs ≡ some old → names (with_pair name value pairs) ≡ names pairs
put_in_place name value old [] h = cc
put_in_place name value old (p ∷ ps) h = by (same_name p.0 name) refl (put_in_place name value old ps)
  where
    by : (b : Bool) → same_name p.0 name ≡ b → (value_of name ps ≡ some old → names (with_pair name value ps) ≡ names ps) → names (with_pair name value (p ∷ ps)) ≡ names (p ∷ ps)
    by true e rest = ap names (put_in name value p ps e)
    by false e rest = ap names (put_past name value p ps e) ∙ ap (λ (l : List (List ℕ)). p.0 ∷ l) (rest (sym (passed name p ps e) ∙ h))

pub put_last : (name value : List ℕ) (pairs : List Pair) → value_of name pairs ≡ none → with_pair name value pairs ≡ pairs ++ (name, value) ∷ []
put_last name value [] h = refl
put_last name value (p ∷ ps) h = by (same_name p.0 name) refl (put_last name value ps)
  where
    by : (b : Bool) → same_name p.0 name ≡ b → (value_of name ps ≡ none → with_pair name value ps ≡ ps ++ (name, value) ∷ []) → with_pair name value (p ∷ ps) ≡ p ∷ (ps ++ (name, value) ∷ [])
    by true e rest = absurd (some_none (sym (found name p ps e) ∙ h))
      where
        some_none : some p.1 ≡ none → ⊥
        some_none g = cc
    by false e rest = put_past name value p ps e ∙ ap (λ (l : List Pair). p ∷ l) (rest (sym (passed name p ps e) ∙ h))

-- a name that has nothing is not among the names
pub not_among : (name : List ℕ) (pairs : List Pair) → value_of name pairs ≡ none → list_any (same_name name) (names pairs) ≡ false
not_among name [] h = refl
not_among name (p ∷ ps) h = by (same_name p.0 name) refl (not_among name ps)
  where
    by : (b : Bool) → same_name p.0 name ≡ b → (value_of name ps ≡ none → list_any (same_name name) (names ps) ≡ false) → list_any (same_name name) (names (p ∷ ps)) ≡ false
    by true e rest = absurd (some_none (sym (found name p ps e) ∙ h))
      where
        some_none : some p.1 ≡ none → ⊥
        some_none g = cc
    by false e rest = ap₂ (λ a b. a || b) (same_flips name p.0 ∙ e) (rest (sym (passed name p ps e) ∙ h))

put_each : (name value : List ℕ) (pairs : List Pair) → All IsPair pairs → IsPair (name, value) → All IsPair (with_pair name value pairs)
put_each name value [] h new = All-cons IsPair (name, value) [] new (All-nil IsPair)
put_each name value (p ∷ ps) h new = by (same_name p.0 name) refl (put_each name value ps (All-tail IsPair p ps h) new)
  where
    by : (b : Bool) → same_name p.0 name ≡ b → All IsPair (with_pair name value ps) → All IsPair (with_pair name value (p ∷ ps))
    by true e rest =
        let its : IsPair (p.0, value) = subst (λ (n : List ℕ). IsPair (n, value)) (sym (same_is p.0 name e)) new in
        subst (λ (l : List Pair). All IsPair l) (sym (put_in name value p ps e)) (All-cons IsPair (p.0, value) ps its (All-tail IsPair p ps h))
    by false e rest =
        subst (λ (l : List Pair). All IsPair l) (sym (put_past name value p ps e)) (All-cons IsPair p (with_pair name value ps) (All-head IsPair p ps h) rest)

pub put_together : (name value : List ℕ) (pairs : List Pair) → ArePairs pairs → IsPair (name, value) → ArePairs (with_pair name value pairs)
put_together name value pairs h new = record { each = put_each name value pairs h.each new; distinct = by (value_of name pairs) refl }
  where
    by : (r : Option (List ℕ)) → value_of name pairs ≡ r → are_distinct (names (with_pair name value pairs)) ≡ true
    by (Some old) e = ap are_distinct (put_in_place name value old pairs e) ∙ h.distinct
    by None e =
        ap (λ (l : List Pair). are_distinct (names l)) (put_last name value pairs e)
        ∙ ap are_distinct (names-append pairs ((name, value) ∷ [])) ∙ distinct_push (names pairs) name
        ∙ from_both (are_distinct (names pairs)) (not (list_any (same_name name) (names pairs))) h.distinct (ap not (not_among name pairs e))

-- ---- a removal

pub gone_in : (name : List ℕ) (p : Pair) (ps : List Pair) → same_name p.0 name ≡ true → without name (p ∷ ps) ≡ ps
gone_in name p ps e = if_true (same_name p.0 name) ps (p ∷ without name ps) e

pub gone_past : (name : List ℕ) (p : Pair) (ps : List Pair) → same_name p.0 name ≡ false → without name (p ∷ ps) ≡ p ∷ without name ps
gone_past name p ps e = if_false (same_name p.0 name) ps (p ∷ without name ps) e

-- whether a pair has another name
abbrev has_other : List ℕ → Pair → Bool
has_other name pair = not (same_name pair.0 name)

all_others : (name : List ℕ) (ps : List Pair) → list_any (same_name name) (names ps) ≡ false → filter (has_other name) ps ≡ ps
all_others name [] h = refl
all_others name (p ∷ ps) h =
    let neither = or_neither (same_name name p.0) (list_any (same_name name) (names ps)) h in
    if_true (has_other name p) (p ∷ filter (has_other name) ps) (filter (has_other name) ps) (ap not (same_flips p.0 name ∙ neither.0))
    ∙ ap (λ (l : List Pair). p ∷ l) (all_others name ps neither.1)

-- no other pair has the name of the first
first_alone : (name : List ℕ) (p : Pair) (ps : List Pair) → are_distinct (names (p ∷ ps)) ≡ true → same_name p.0 name ≡ true → list_any (same_name name) (names ps) ≡ false
first_alone name p ps h e =
    let both = and_both (not (list_any (same_name p.0) (names ps))) (are_distinct (names ps)) h in
    ap (λ (n : List ℕ). list_any (same_name n) (names ps)) (sym (same_is p.0 name e)) ∙ not_true (list_any (same_name p.0) (names ps)) both.0

others_distinct : (p : Pair) (ps : List Pair) → are_distinct (names (p ∷ ps)) ≡ true → are_distinct (names ps) ≡ true
others_distinct p ps h = (and_both (not (list_any (same_name p.0) (names ps))) (are_distinct (names ps)) h).1

pub gone_alone : (name : List ℕ) (pairs : List Pair) → are_distinct (names pairs) ≡ true → without name pairs ≡ filter (has_other name) pairs
gone_alone name [] h = refl
gone_alone name (p ∷ ps) h = by (same_name p.0 name) refl (gone_alone name ps (others_distinct p ps h))
  where
    by : (b : Bool) → same_name p.0 name ≡ b → without name ps ≡ filter (has_other name) ps → without name (p ∷ ps) ≡ filter (has_other name) (p ∷ ps)
    by true e rest =
        gone_in name p ps e ∙ sym (all_others name ps (first_alone name p ps h e))
        ∙ sym (if_false (has_other name p) (p ∷ filter (has_other name) ps) (filter (has_other name) ps) (ap not e))
    by false e rest =
        gone_past name p ps e ∙ ap (λ (l : List Pair). p ∷ l) rest
        ∙ sym (if_true (has_other name p) (p ∷ filter (has_other name) ps) (filter (has_other name) ps) (ap not e))

nothing : (name : List ℕ) (ps : List Pair) → list_any (same_name name) (names ps) ≡ false → value_of name ps ≡ none
nothing name [] h = refl
nothing name (p ∷ ps) h =
    let neither = or_neither (same_name name p.0) (list_any (same_name name) (names ps)) h in
    passed name p ps (same_flips p.0 name ∙ neither.0) ∙ nothing name ps neither.1

pub gone_its : (name : List ℕ) (pairs : List Pair) → are_distinct (names pairs) ≡ true → value_of name (without name pairs) ≡ none
gone_its name [] h = refl
gone_its name (p ∷ ps) h = by (same_name p.0 name) refl (gone_its name ps (others_distinct p ps h))
  where
    by : (b : Bool) → same_name p.0 name ≡ b → value_of name (without name ps) ≡ none → value_of name (without name (p ∷ ps)) ≡ none
    by true e rest = ap (value_of name) (gone_in name p ps e) ∙ nothing name ps (first_alone name p ps h e)
    by false e rest = ap (value_of name) (gone_past name p ps e) ∙ passed name p (without name ps) e ∙ rest

pub gone_others : (name other : List ℕ) (pairs : List Pair) → other ≢ name → value_of other (without name pairs) ≡ value_of other pairs
gone_others name other [] n = refl
gone_others name other (p ∷ ps) n = by (same_name p.0 name) refl (gone_others name other ps n)
  where
    by : (b : Bool) → same_name p.0 name ≡ b → value_of other (without name ps) ≡ value_of other ps → value_of other (without name (p ∷ ps)) ≡ value_of other (p ∷ ps)
    by true e rest = ap (value_of other) (gone_in name p ps e) ∙ sym (passed other p ps (other_than name other p n e))
    by false e rest = ap (value_of other) (gone_past name p ps e) ∙ ap (λ (r : Option (List ℕ)). cond (same_name p.0 other) (some p.1) r) rest

gone_each : (name : List ℕ) (pairs : List Pair) → All IsPair pairs → All IsPair (without name pairs)
gone_each name [] h = h
gone_each name (p ∷ ps) h = by (same_name p.0 name) refl (gone_each name ps (All-tail IsPair p ps h))
  where
    by : (b : Bool) → same_name p.0 name ≡ b → All IsPair (without name ps) → All IsPair (without name (p ∷ ps))
    by true e rest = subst (λ (l : List Pair). All IsPair l) (sym (gone_in name p ps e)) (All-tail IsPair p ps h)
    by false e rest = subst (λ (l : List Pair). All IsPair l) (sym (gone_past name p ps e)) (All-cons IsPair p (without name ps) (All-head IsPair p ps h) rest)

still_not : (name q : List ℕ) (pairs : List Pair) → list_any (same_name q) (names pairs) ≡ false → list_any (same_name q) (names (without name pairs)) ≡ false
still_not name q [] h = h
still_not name q (p ∷ ps) h =
    let neither = or_neither (same_name q p.0) (list_any (same_name q) (names ps)) h in
    by (same_name p.0 name) refl neither.0 neither.1 (still_not name q ps neither.1)
  where
    by : (b : Bool) → same_name p.0 name ≡ b → same_name q p.0 ≡ false → list_any (same_name q) (names ps) ≡ false → list_any (same_name q) (names (without name ps)) ≡ false → list_any (same_name q) (names (without name (p ∷ ps))) ≡ false
    by true e here rest less = ap (λ (l : List Pair). list_any (same_name q) (names l)) (gone_in name p ps e) ∙ rest
    by false e here rest less = ap (λ (l : List Pair). list_any (same_name q) (names l)) (gone_past name p ps e) ∙ ap₂ (λ a b. a || b) here less

gone_distinct : (name : List ℕ) (pairs : List Pair) → are_distinct (names pairs) ≡ true → are_distinct (names (without name pairs)) ≡ true
gone_distinct name [] h = refl
gone_distinct name (p ∷ ps) h =
    let both = and_both (not (list_any (same_name p.0) (names ps))) (are_distinct (names ps)) h in
    by (same_name p.0 name) refl (not_true (list_any (same_name p.0) (names ps)) both.0) both.1 (gone_distinct name ps both.1)
  where
    by : (b : Bool) → same_name p.0 name ≡ b → list_any (same_name p.0) (names ps) ≡ false → are_distinct (names ps) ≡ true → are_distinct (names (without name ps)) ≡ true → are_distinct (names (without name (p ∷ ps))) ≡ true
    by true e new rest less = ap (λ (l : List Pair). are_distinct (names l)) (gone_in name p ps e) ∙ rest
    by false e new rest less =
        ap (λ (l : List Pair). are_distinct (names l)) (gone_past name p ps e)
        ∙ from_both (not (list_any (same_name p.0) (names (without name ps)))) (are_distinct (names (without name ps))) (ap not (still_not name p.0 ps new)) less

gone_shorter : (name : List ℕ) (pairs : List Pair) → length (pairs_bytes (without name pairs)) ≤ length (pairs_bytes pairs)
gone_shorter name [] = omega arith
gone_shorter name (p ∷ ps) = by (same_name p.0 name) refl (gone_shorter name ps)
  where
    by : (b : Bool) → same_name p.0 name ≡ b → length (pairs_bytes (without name ps)) ≤ length (pairs_bytes ps) → length (pairs_bytes (without name (p ∷ ps))) ≤ length (pairs_bytes (p ∷ ps))
    by true e less = omega (arith, ap (λ (l : List Pair). length (pairs_bytes l)) (gone_in name p ps e), length-append (pair_bytes p) (pairs_bytes ps))
    by false e less =
        omega (arith, less, ap (λ (l : List Pair). length (pairs_bytes l)) (gone_past name p ps e), length-append (pair_bytes p) (pairs_bytes ps), length-append (pair_bytes p) (pairs_bytes (without name ps)))

pub gone_whole : (name : List ℕ) (pairs : List Pair) → HaveSection pairs → HaveSection (without name pairs)
gone_whole name pairs h = record {
  together = record { each = gone_each name pairs h.together.each; distinct = gone_distinct name pairs h.together.distinct };
  fits = omega (arith, gone_shorter name pairs, h.fits);
}
