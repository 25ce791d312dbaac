-- Numbers in rising order, and others that are added to them.
use Rattle.std.proofs.Common.{◌≡◌, ℕ, zero, suc, ◌+◌, ◌<◌, ◌≤◌, Bool, true, false, ◌&&◌, ◌||◌, cond, nat_lt, nat_eq, List, [], ◌∷◌, ◌++◌, length, get_or, take, drop, ◌-◌, length-drop, refl, sym, ap, ◌∙◌, subst, arith, add-one, lt-ltb, ne_eqb, eq-eqb, ◌⊎◌, inl, inr, true≢false, append_assoc}
use Rattle.std.proofs.lemmas.Bool.{le-ltb, ltb-true, ltb-false, eqb-true, and_parts, and_from, cases_order}
use Rattle.std.proofs.lemmas.List.{drop_all, take_all}
use Rattle.std.proofs.lemmas.List.Sorted.{IsNonDecreasingBy-from_all_adjacent, list_any-IsPermutation}
use Rattle.std.proofs.lemmas.Map.Keys.{IsStrictlyIncreasing-dedup}
use Rattle.std.specs.List.{list_all, list_any, dedup, dedup_from}
use Rattle.std.specs.List.Sorted.{IsNonDecreasing, IsStrictlyIncreasing, IsSorted, IsPermutation}
use Rattle.std.specs.Ordering.{nat_cmp}
use Rattle.manifest_rules.specs.Rules.{with_id, with_ids}
use Rattle.manifest_rules.specs.State.{are_rising}
use Rattle.manifest_rules.specs.Ids.{SameIds, IsPassed}
use Rattle.manifest_rules.proofs.Gone.{among, rising-parts, with_ids-among, with_ids-rising, below_first}

-- ---- order

rises : (xs : List ℕ) → are_rising xs ≡ true → (k d : ℕ) → k + 1 < length xs → get_or xs k d ≤ get_or xs (suc k) d
rises [] h k d within = absurd (omega arith)
rises (x ∷ []) h k d within = absurd (omega arith)
rises (x ∷ y ∷ more) h zero d within = let less = ltb-true x y (and_parts (nat_lt x y) (are_rising (y ∷ more)) h).0 in omega arith
rises (x ∷ y ∷ more) h (suc k) d within = rises (y ∷ more) (and_parts (nat_lt x y) (are_rising (y ∷ more)) h).1 k d (omega arith)

pub rising_sorted : (xs : List ℕ) → are_rising xs ≡ true → IsNonDecreasing xs
rising_sorted xs h = IsNonDecreasingBy-from_all_adjacent (λ x. x) xs (λ k d within. rw add-one (rises xs h k d within))

from_increasing : (xs : List ℕ) → ((k : ℕ) → k + 1 < length xs → get_or xs k 0 < get_or xs (suc k) 0) → are_rising xs ≡ true
from_increasing [] h = refl
from_increasing (x ∷ []) h = refl
from_increasing (x ∷ y ∷ more) h = and_from (nat_lt x y) (are_rising (y ∷ more)) (lt-ltb x y (h 0 (omega arith))) (from_increasing (y ∷ more) (λ k within. h (suc k) (omega arith)))

-- what a sort leaves without what comes again rises
pub sorted_rising : (xs ys : List ℕ) → IsSorted nat_cmp xs → ys ≡ dedup nat_eq xs → are_rising ys ≡ true
sorted_rising xs ys h is =
    let up = IsStrictlyIncreasing-dedup xs h in
    ap are_rising is ∙ from_increasing (dedup nat_eq xs) (λ k within. rw add-one at (up k within))

-- ---- members

twice_or : (a b : Bool) → (a || b) ≡ (a || (a || b))
twice_or true b = refl
twice_or false b = refl

deduped_from : (id x : ℕ) (xs : List ℕ) → among id (dedup_from nat_eq x xs) ≡ (nat_eq id x || among id xs)
deduped_from id x [] = refl
deduped_from id x (y ∷ ys) = by (nat_eq y x) refl (deduped_from id x ys) (deduped_from id y ys)
  where
    by : (b : Bool) → nat_eq y x ≡ b → among id (dedup_from nat_eq x ys) ≡ (nat_eq id x || among id ys) → among id (dedup_from nat_eq y ys) ≡ (nat_eq id y || among id ys)
        → among id (cond b (dedup_from nat_eq x ys) (x ∷ dedup_from nat_eq y ys)) ≡ (nat_eq id x || (nat_eq id y || among id ys))
    by true e same other = same ∙ twice_or (nat_eq id x) (among id ys) ∙ ap (λ z. nat_eq id x || (nat_eq id z || among id ys)) (sym (eqb-true y x e))
    by false e same other = ap (λ b. nat_eq id x || b) other

deduped : (id : ℕ) (xs : List ℕ) → among id (dedup nat_eq xs) ≡ among id xs
deduped id [] = refl
deduped id (x ∷ xs) = deduped_from id x xs

-- a sort that leaves out what comes again has the same ids
pub sorted_same : (xs sorted ys : List ℕ) → IsPermutation xs sorted → ys ≡ dedup nat_eq sorted → SameIds ys xs
sorted_same xs sorted ys moved is = λ id. ap (among id) is ∙ deduped id sorted ∙ sym (list_any-IsPermutation (nat_eq id) xs sorted moved)

-- ---- ids above one

weaker : (x y : ℕ) (zs : List ℕ) → x < y → list_all (nat_lt y) zs ≡ true → list_all (nat_lt x) zs ≡ true
weaker x y [] less h = refl
weaker x y (z ∷ zs) less h =
    let parts = and_parts (nat_lt y z) (list_all (nat_lt y) zs) h in
    let more = ltb-true y z parts.0 in
    and_from (nat_lt x z) (list_all (nat_lt x) zs) (lt-ltb x z (omega arith)) (weaker x y zs less parts.1)

rising-above : (x : ℕ) (xs : List ℕ) → are_rising (x ∷ xs) ≡ true → list_all (nat_lt x) xs ≡ true
rising-above x [] h = refl
rising-above x (y ∷ ys) h =
    let parts = and_parts (nat_lt x y) (are_rising (y ∷ ys)) h in
    and_from (nat_lt x y) (list_all (nat_lt x) ys) parts.0 (weaker x y ys (ltb-true x y parts.0) (rising-above y ys parts.1))

above_none : (x : ℕ) (xs : List ℕ) → list_all (nat_lt x) xs ≡ true → among x xs ≡ false
above_none x [] h = refl
above_none x (y ∷ ys) h =
    let parts = and_parts (nat_lt x y) (list_all (nat_lt x) ys) h in
    let less = ltb-true x y parts.0 in
    ap (λ b. b || among x ys) (ne_eqb x y (λ e. omega arith)) ∙ above_none x ys parts.1

-- ---- lists in rising order with the same ids are equal

here_first : (x : ℕ) (xs : List ℕ) → among x (x ∷ xs) ≡ true
here_first x xs = ap (λ b. b || among x xs) (eq-eqb x x refl)

not_below : (x y : ℕ) (xs ys : List ℕ) → are_rising (y ∷ ys) ≡ true → SameIds (x ∷ xs) (y ∷ ys) → x < y → ⊥
not_below x y xs ys up same less =
    true≢false (sym (here_first x xs) ∙ same x ∙ above_none x (y ∷ ys) (and_from (nat_lt x y) (list_all (nat_lt x) ys) (lt-ltb x y less) (weaker x y ys less (rising-above y ys up))))

pub same_rising : (xs ys : List ℕ) → are_rising xs ≡ true → are_rising ys ≡ true → SameIds xs ys → xs ≡ ys
same_rising [] [] up more same = refl
same_rising [] (y ∷ ys) up more same = absurd (true≢false (sym (here_first y ys) ∙ sym (same y)))
same_rising (x ∷ xs) [] up more same = absurd (true≢false (sym (here_first x xs) ∙ same x))
same_rising (x ∷ xs) (y ∷ ys) up more same = by (cases_order x y) (same_rising xs ys (rising-parts x xs up).1 (rising-parts y ys more).1)
  where
    tail : x ≡ y → (id : ℕ) → among id xs ≡ among id ys
    tail e id = one (nat_eq id x) refl
      where
        one : (b : Bool) → nat_eq id x ≡ b → among id xs ≡ among id ys
        one true f =
            let at : id ≡ x = eqb-true id x f in
            ap (λ z. among z xs) at ∙ above_none x xs (rising-above x xs up) ∙ sym (ap (λ z. among z ys) (at ∙ e) ∙ above_none y ys (rising-above y ys more))
        one false f =
            ap (λ b. b || among id xs) (sym f) ∙ same id ∙ ap (λ z. nat_eq id z || among id ys) (sym e) ∙ ap (λ b. b || among id ys) f

    by : (x ≡ y) ⊎ ((x < y) ⊎ (y < x)) → (SameIds xs ys → xs ≡ ys) → x ∷ xs ≡ y ∷ ys
    by (inl e) rest = ap (λ z. z ∷ xs) e ∙ ap (λ zs. y ∷ zs) (rest (tail e))
    by (inr (inl less)) rest = absurd (not_below x y xs ys more same less)
    by (inr (inr less)) rest = absurd (not_below y x ys xs up (λ id. sym (same id)) less)

-- ids in rising order that are added to others may be any with the same members
pub added_same : (ids others rising : List ℕ) → are_rising ids ≡ true → SameIds rising others → with_ids rising ids ≡ with_ids others ids
added_same ids others rising up same =
    same_rising (with_ids rising ids) (with_ids others ids) (with_ids-rising rising ids up) (with_ids-rising others ids up)
    (λ id. with_ids-among id rising ids ∙ ap (λ b. b || among id ids) (same id) ∙ sym (with_ids-among id others ids))

-- ---- a merge

with_id-after : (id x : ℕ) (xs : List ℕ) → x < id → with_id id (x ∷ xs) ≡ x ∷ with_id id xs
with_id-after id x xs h = rw (le-ltb id x (omega arith), ne_eqb id x (λ e. omega arith)) refl

with_ids-above : (x : ℕ) (ids xs : List ℕ) → list_all (nat_lt x) ids ≡ true → with_ids ids (x ∷ xs) ≡ x ∷ with_ids ids xs
with_ids-above x [] xs h = refl
with_ids-above x (id ∷ ids) xs h =
    let parts = and_parts (nat_lt x id) (list_all (nat_lt x) ids) h in
    ap (with_ids ids) (with_id-after id x xs (ltb-true x id parts.0)) ∙ with_ids-above x ids (with_id id xs) parts.1

pub with_ids-nil : (ids : List ℕ) → are_rising ids ≡ true → with_ids ids [] ≡ ids
with_ids-nil [] up = refl
with_ids-nil (id ∷ ids) up = with_ids-above id ids [] (rising-above id ids up) ∙ ap (λ xs. id ∷ xs) (with_ids-nil ids (rising-parts id ids up).1)

-- ids in rising order are gone through up to one
pub record Passing (id : ℕ) (ids left before after : List ℕ) : Type 0 where
  pub moved : (others : List ℕ) → before ++ with_ids ids (id ∷ others) ≡ after ++ with_ids left (id ∷ others)
  pub rising : are_rising left ≡ true

pub passing_begins : (id : ℕ) (ids before : List ℕ) → are_rising ids ≡ true → Passing id ids ids before before
passing_begins id ids before up = record { moved = λ others. refl; rising = up }

-- the next is below it
pub passes_below : (id first : ℕ) (ids left rest before after next : List ℕ) → Passing id ids left before after → left ≡ first ∷ rest → first < id → next ≡ after ++ first ∷ [] → Passing id ids rest before next
passes_below id first ids left rest before after next h e less is =
    let up : are_rising (first ∷ rest) ≡ true = ap are_rising (sym e) ∙ h.rising in record {
      moved = λ others.
          h.moved others
          ∙ ap (λ l. after ++ with_ids l (id ∷ others)) e
          ∙ ap (λ l. after ++ with_ids rest l) (ap (λ b. cond b (first ∷ id ∷ others) (cond (nat_eq first id) (id ∷ others) (id ∷ with_id first others))) (lt-ltb first id less))
          ∙ ap (λ l. after ++ l) (with_ids-above first rest (id ∷ others) (rising-above first rest up))
          ∙ sym (append_assoc after (first ∷ []) (with_ids rest (id ∷ others)))
          ∙ ap (λ l. l ++ with_ids rest (id ∷ others)) (sym is);
      rising = (rising-parts first rest up).1;
    }

-- the next is the same
pub passes_same : (id first : ℕ) (ids left rest before after : List ℕ) → Passing id ids left before after → left ≡ first ∷ rest → first ≡ id → Passing id ids rest before after
passes_same id first ids left rest before after h e same =
    let up : are_rising (first ∷ rest) ≡ true = ap are_rising (sym e) ∙ h.rising in record {
      moved = λ others.
          h.moved others
          ∙ ap (λ l. after ++ with_ids l (id ∷ others)) e
          ∙ ap (λ l. after ++ with_ids rest l)
          (ap (λ b. cond b (first ∷ id ∷ others) (cond (nat_eq first id) (id ∷ others) (id ∷ with_id first others))) (le-ltb first id (omega arith))
          ∙ ap (λ b. cond b (id ∷ others) (id ∷ with_id first others)) (eq-eqb first id same));
      rising = (rising-parts first rest up).1;
    }

-- the next is above it
pub passed_above : (id first : ℕ) (ids left rest before after : List ℕ) → Passing id ids left before after → left ≡ first ∷ rest → id < first → IsPassed id ids left before after
passed_above id first ids left rest before after h e less =
    let up : are_rising (first ∷ rest) ≡ true = ap are_rising (sym e) ∙ h.rising in
    let above : list_all (nat_lt id) left ≡ true = ap (list_all (nat_lt id)) e ∙ and_from (nat_lt id first) (list_all (nat_lt id) rest) (lt-ltb id first less) (weaker id first rest less (rising-above first rest up)) in
    record { moved = λ others. h.moved others ∙ ap (λ l. after ++ l) (with_ids-above id left others above); rising = h.rising }

-- none is left
pub passed_all : (id : ℕ) (ids left before after : List ℕ) → Passing id ids left before after → left ≡ [] → IsPassed id ids left before after
passed_all id ids left before after h e = record {
  moved = λ others. h.moved others ∙ ap (λ l. after ++ with_ids l (id ∷ others)) e ∙ ap (λ l. after ++ id ∷ with_ids l others) (sym e);
  rising = h.rising;
}

-- two lists are merged as far as this
pub record Merging (ids others left all : List ℕ) (i : ℕ) : Type 0 where
  pub whole : with_ids others ids ≡ all ++ with_ids left (drop i ids)
  pub rising : are_rising left ≡ true

pub merges : (ids others left all rest passed next : List ℕ) (i id : ℕ) → Merging ids others left all i → drop i ids ≡ id ∷ drop (i + 1) ids → IsPassed id left rest all passed → next ≡ passed ++ id ∷ [] → Merging ids others rest next (i + 1)
merges ids others left all rest passed next i id h e p is = record {
  whole =
      h.whole ∙ ap (λ l. all ++ with_ids left l) e ∙ p.moved (drop (i + 1) ids)
      ∙ sym (append_assoc passed (id ∷ []) (with_ids rest (drop (i + 1) ids)))
      ∙ ap (λ l. l ++ with_ids rest (drop (i + 1) ids)) (sym is);
  rising = p.rising;
}

-- what is left behind the first, as a pattern takes it
pub rest_is : (left : List ℕ) → take (length left - 1) (drop 1 left) ≡ drop 1 left
rest_is left = take_all (length left - 1) (drop 1 left) (omega (arith, length-drop 1 left))

pub merged_all : (ids others left all merged : List ℕ) (i : ℕ) → Merging ids others left all i → length ids ≤ i → merged ≡ all ++ left → merged ≡ with_ids others ids
merged_all ids others left all merged i h end is =
    is ∙ ap (λ l. all ++ l) (sym (ap (with_ids left) (drop_all i ids end) ∙ with_ids-nil left h.rising)) ∙ sym h.whole
