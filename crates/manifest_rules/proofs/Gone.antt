-- Ids that were dropped, when more are.
use Rattle.std.proofs.Common.{◌≡◌, ℕ, ◌<◌, Bool, true, false, cond, not, ◌&&◌, ◌||◌, nat_eq, nat_lt, filter, List, [], ◌∷◌, refl, sym, ap, ◌∙◌, arith, true≢false, lt-ltb, eq-eqb, inl, inr}
use Rattle.std.proofs.lemmas.Bool.{and_parts, and_from, or_cases, or_parts, ltb-false, eqb-true, eqb-false}
use Rattle.std.specs.List.{list_all, list_any}
use Rattle.manifest_rules.specs.Rules.{lost, with_id, with_ids}
use Rattle.manifest_rules.specs.State.{are_rising}

abbrev pub among : ℕ → List ℕ → Bool
among x xs = list_any (nat_eq x) xs

-- ---- what holds of each element

with_id-all : (p : ℕ → Bool) (id : ℕ) (xs : List ℕ) → p id ≡ true → list_all p xs ≡ true → list_all p (with_id id xs) ≡ true
with_id-all p id [] here all = and_from (p id) true here refl
with_id-all p id (x ∷ xs) here all = by (nat_lt id x) (nat_eq id x) (with_id-all p id xs here (and_parts (p x) _ all).1)
  where
    by : (a b : Bool) → list_all p (with_id id xs) ≡ true → list_all p (cond a (id ∷ x ∷ xs) (cond b (x ∷ xs) (x ∷ with_id id xs))) ≡ true
    by true b rest = and_from (p id) _ here all
    by false true rest = all
    by false false rest = and_from (p x) _ (and_parts (p x) _ all).0 rest

pub with_ids-all : (p : ℕ → Bool) (ids xs : List ℕ) → list_all p ids ≡ true → list_all p xs ≡ true → list_all p (with_ids ids xs) ≡ true
with_ids-all p [] xs more all = all
with_ids-all p (id ∷ ids) xs more all = let parts = and_parts (p id) (list_all p ids) more in with_ids-all p ids (with_id id xs) parts.1 (with_id-all p id xs parts.0 all)

pub filter-all : (p q : ℕ → Bool) (xs : List ℕ) → list_all p xs ≡ true → list_all p (filter q xs) ≡ true
filter-all p q [] all = refl
filter-all p q (x ∷ xs) all = by (q x) (filter-all p q xs (and_parts (p x) _ all).1)
  where
    by : (b : Bool) → list_all p (filter q xs) ≡ true → list_all p (cond b (x ∷ filter q xs) (filter q xs)) ≡ true
    by true rest = and_from (p x) _ (and_parts (p x) _ all).0 rest
    by false rest = rest

-- ---- order

-- a number is below the first
abbrev pub below_first : ℕ → List ℕ → Bool
below_first x [] = true
below_first x (y ∷ ys) = nat_lt x y

rising-cons : (x : ℕ) (xs : List ℕ) → below_first x xs ≡ true → are_rising xs ≡ true → are_rising (x ∷ xs) ≡ true
rising-cons x [] first more = refl
rising-cons x (y ∷ ys) first more = and_from (nat_lt x y) _ first more

pub rising-parts : (x : ℕ) (xs : List ℕ) → are_rising (x ∷ xs) ≡ true → (below_first x xs ≡ true) × (are_rising xs ≡ true)
rising-parts x [] h = (refl, refl)
rising-parts x (y ∷ ys) h = and_parts (nat_lt x y) _ h

below_first-with_id : (x id : ℕ) (xs : List ℕ) → x < id → below_first x xs ≡ true → below_first x (with_id id xs) ≡ true
below_first-with_id x id [] less first = lt-ltb x id less
below_first-with_id x id (y ∷ ys) less first = by (nat_lt id y) (nat_eq id y)
  where
    by : (a b : Bool) → below_first x (cond a (id ∷ y ∷ ys) (cond b (y ∷ ys) (y ∷ with_id id ys))) ≡ true
    by true b = lt-ltb x id less
    by false true = first
    by false false = first

with_id-rising : (id : ℕ) (xs : List ℕ) → are_rising xs ≡ true → are_rising (with_id id xs) ≡ true
with_id-rising id [] h = refl
with_id-rising id (x ∷ xs) h = by (nat_lt id x) (nat_eq id x) refl refl (with_id-rising id xs (rising-parts x xs h).1)
  where
    by : (a b : Bool) → nat_lt id x ≡ a → nat_eq id x ≡ b → are_rising (with_id id xs) ≡ true → are_rising (cond a (id ∷ x ∷ xs) (cond b (x ∷ xs) (x ∷ with_id id xs))) ≡ true
    by true b e f rest = and_from (nat_lt id x) _ e h
    by false true e f rest = h
    by false false e f rest =
        let high = ltb-false id x e in
        let other = eqb-false id x f in
        let less : x < id = omega arith in
        rising-cons x (with_id id xs) (below_first-with_id x id xs less (rising-parts x xs h).0) rest

pub with_ids-rising : (ids xs : List ℕ) → are_rising xs ≡ true → are_rising (with_ids ids xs) ≡ true
with_ids-rising [] xs h = h
with_ids-rising (id ∷ ids) xs h = with_ids-rising ids (with_id id xs) (with_id-rising id xs h)

-- ---- membership

swap_or : (a b c : Bool) → (a || (b || c)) ≡ (b || (a || c))
swap_or true true c = refl
swap_or true false c = refl
swap_or false true c = refl
swap_or false false c = refl

with_id-among : (x id : ℕ) (xs : List ℕ) → among x (with_id id xs) ≡ (nat_eq x id || among x xs)
with_id-among x id [] = refl
with_id-among x id (y ∷ ys) = by (nat_lt id y) (nat_eq id y) refl (with_id-among x id ys)
  where
    by : (a b : Bool) → nat_eq id y ≡ b → among x (with_id id ys) ≡ (nat_eq x id || among x ys) → among x (cond a (id ∷ y ∷ ys) (cond b (y ∷ ys) (y ∷ with_id id ys))) ≡ (nat_eq x id || among x (y ∷ ys))
    by true b f rest = refl
    by false true f rest = twice (nat_eq x y) (among x ys) ∙ ap (λ z. nat_eq x z || among x (y ∷ ys)) (sym (eqb-true id y f))
      where
        twice : (p q : Bool) → (p || q) ≡ (p || (p || q))
        twice true q = refl
        twice false q = refl
    by false false f rest = ap (λ b. nat_eq x y || b) rest ∙ swap_or (nat_eq x y) (nat_eq x id) (among x ys)

pub with_ids-among : (x : ℕ) (ids xs : List ℕ) → among x (with_ids ids xs) ≡ (among x ids || among x xs)
with_ids-among x [] xs = refl
with_ids-among x (id ∷ ids) xs =
    with_ids-among x ids (with_id id xs) ∙ ap (λ b. among x ids || b) (with_id-among x id xs)
    ∙ swap_or (among x ids) (nat_eq x id) (among x xs) ∙ regroup (nat_eq x id) (among x ids) (among x xs)
  where
    regroup : (a b c : Bool) → (a || (b || c)) ≡ ((a || b) || c)
    regroup true b c = refl
    regroup false b c = refl

-- a lost id isn't among the new ones
lost-among : (x : ℕ) (old new : List ℕ) → among x new ≡ true → among x (lost old new) ≡ false
lost-among x [] new here = refl
lost-among x (y ∷ ys) new here = by (among y new) refl (lost-among x ys new here)
  where
    by : (b : Bool) → among y new ≡ b → among x (lost ys new) ≡ false → among x (cond (not b) (y ∷ lost ys new) (lost ys new)) ≡ false
    by true e rest = rest
    by false e rest = either (nat_eq x y) refl
      where
        either : (c : Bool) → nat_eq x y ≡ c → (c || among x (lost ys new)) ≡ false
        either true f = absurd (true≢false (sym here ∙ ap (λ z. among z new) (eqb-true x y f) ∙ e))
        either false f = rest

-- ---- lists that share nothing

pub none_of : (p : ℕ → Bool) (ws : List ℕ) → list_any p ws ≡ false → (x : ℕ) → among x ws ≡ true → p x ≡ false
none_of p [] none x here = absurd (true≢false (sym here))
none_of p (w ∷ ws) none x here =
    let parts = or_parts (p w) (list_any p ws) none in
    elim (or_cases (nat_eq x w) (among x ws) here) [
      | inl e ↦ ap p (eqb-true x w e) ∙ parts.0
      | inr e ↦ none_of p ws parts.1 x e
    ]

pub or_none : (a b : Bool) → a ≡ false → b ≡ false → (a || b) ≡ false
or_none a b p q = ap (λ c. c || b) p ∙ q

pub from_none : (p : ℕ → Bool) (ws : List ℕ) → ((x : ℕ) → among x ws ≡ true → p x ≡ false) → list_any p ws ≡ false
from_none p [] none = refl
from_none p (w ∷ ws) none =
    or_none (p w) (list_any p ws) (none w (ap (λ b. b || among w ws) (eq-eqb w w refl)))
    (from_none p ws (λ x here. none x (later (nat_eq x w) (among x ws) here)))
  where
    later : (a b : Bool) → b ≡ true → (a || b) ≡ true
    later true b h = refl
    later false b h = h

-- two lists have no number in common
abbrev pub share : List ℕ → List ℕ → Bool
share ids gone = list_any (λ id. among id gone) ids

-- new ids share nothing with those that were lost to them and those that were dropped before
pub apart : (old new gone : List ℕ) → share new gone ≡ false → share new (with_ids (lost old new) gone) ≡ false
apart old new gone none =
    from_none (λ id. among id (with_ids (lost old new) gone)) new
    (λ x here. with_ids-among x (lost old new) gone ∙ or_none (among x (lost old new)) (among x gone) (lost-among x old new here) (none_of (λ id. among id gone) new none x here))

-- a dropped id stays dropped
pub still_gone : (x : ℕ) (ids gone : List ℕ) → among x gone ≡ true → among x (with_ids ids gone) ≡ true
still_gone x ids gone here = with_ids-among x ids gone ∙ ap (λ b. among x ids || b) here ∙ always (among x ids)
  where
    always : (a : Bool) → (a || true) ≡ true
    always true = refl
    always false = refl

-- and isn't there
pub not_there : (x : ℕ) (ids gone : List ℕ) → share ids gone ≡ false → among x gone ≡ true → among x ids ≡ false
not_there x ids gone none here = by (among x ids) refl
  where
    by : (b : Bool) → among x ids ≡ b → among x ids ≡ false
    by true e = absurd (true≢false (sym here ∙ none_of (λ id. among id gone) ids none x e))
    by false e = e

-- an id is among the lost ones where it is among the old ones and not among the new ones
pub lost-is : (x : ℕ) (old new : List ℕ) → among x (lost old new) ≡ (among x old && not (among x new))
lost-is x [] new = refl
lost-is x (y ∷ ys) new = by (among y new) refl (nat_eq x y) refl (lost-is x ys new)
  where
    by : (b : Bool) → among y new ≡ b → (c : Bool) → nat_eq x y ≡ c → among x (lost ys new) ≡ (among x ys && not (among x new))
        → among x (cond (not b) (y ∷ lost ys new) (lost ys new)) ≡ ((c || among x ys) && not (among x new))
    by true e true f rest = lost-among x ys new here ∙ ap not (sym here)
      where
        here : among x new ≡ true
        here = ap (λ z. among z new) (eqb-true x y f) ∙ e
    by true e false f rest = rest
    by false e true f rest = ap (λ c. c || among x (lost ys new)) f ∙ ap not (sym (ap (λ z. among z new) (eqb-true x y f) ∙ e))
    by false e false f rest = ap (λ c. c || among x (lost ys new)) f ∙ rest
