-- The trees of a map have each key once, and what they count.
use Rattle.std.specs.Prelude.{◌≡◌, ℕ, ◌+◌, ◌<◌, ◌≤◌, nat_eq, is_some, sum, map as list_map, filter, Bool, true, false, cond, not, ◌&&◌, List, [], ◌∷◌, ◌++◌, Option, Some, None, refl}
use Rattle.std.specs.declared.cmp.Ordering.{Ordering}
use Rattle.std.specs.declared.cmp.Ordering.TheVariants.{Less, Equal, Greater}
use Rattle.std.specs.List.{list_all, AllByRecursion}
use Rattle.std.specs.List.Sorted.{IsStrictlySortedBy}
use Rattle.std.specs.Map.{keys_of, values_of}
use Rattle.std.specs.Ordering.{is_eq}
use Rattle.std.specs.BTreeMap.{is_at}
use Rattle.std.specs.FinMap as map
use Rattle.std.proofs.Common.{sym, ◌∙◌, ap, ap₂, subst, arith}
use Rattle.std.proofs.lemmas.Bool.{ne_eqb, eqb-true}
use Rattle.std.proofs.lemmas.List.Elements.{filter-append}
use Rattle.std.proofs.lemmas.List.Kept.{IsStrictlySortedBy-filter}
use Rattle.std.proofs.lemmas.List.Sums.{sum_by-cons, sum_by-append}
use Rattle.std.proofs.lemmas.Map.Keys.{sorted_head, sorted_tail}
use Rattle.doc_model.specs.declared.key.DocKey.{DocKey}
use Rattle.doc_model.specs.declared.slot.Slot.{Slot}
use Rattle.doc_model.specs.Keys.{key_cmp}
use Rattle.doc_model.specs.Slots.{slot_cmp, slot_of, AreTrees, HasNone}
use Rattle.doc_model.specs.Values.{StandOnce, AreValues, weight_of, of_collection}
use Rattle.doc_model.proofs.Entries.{value_at, find_value}
use Rattle.doc_model.proofs.Slots.{joined, found, lookup_both, first_of, its, slot_at, none_later, key_itself}
use Rattle.doc_model.proofs.Freed.{values_kept, slots_from, slot_starts, starts_own, starts_behind, beyond, keys_filter, filter_both}
use Rattle.doc_model.proofs.Weights.{total, weight_made, weight_kept}

-- ---- each key stands once

is_not : (o : Ordering) → o ≡ Less → is_eq o ≡ false
is_not Less e = refl
is_not Equal e = absurd (cc)
is_not Greater e = refl

-- keys that come later have nothing at an earlier one
none_behind : {X : Type 0} (k : DocKey) (fs : List (DocKey × X)) → AllByRecursion (λ q. key_cmp k q ≡ Less) (keys_of fs) → value_at fs k ≡ None
none_behind k [] h = refl
none_behind k (e ∷ fs) h = ap (λ b. cond b (Some e.1) (value_at fs k)) (is_not (key_cmp k e.0) h.0) ∙ none_behind k fs h.1

once_sorted : {X : Type 0} (fs : List (DocKey × X)) → IsStrictlySortedBy key_cmp (keys_of fs) → StandOnce fs
once_sorted [] h = tt
once_sorted (e ∷ fs) h = (
  find_value fs e.0 ∙ none_behind e.0 fs (sorted_head key_cmp e.0 (keys_of fs) h),
  once_sorted fs (sorted_tail key_cmp e.0 (keys_of fs) h),
)

once_placed : {X : Type 0} (es : List (Slot × (DocKey × X))) → IsStrictlySortedBy slot_cmp (keys_of es) → AllByRecursion (λ e. e.0 ≡ slot_of e.1.0) es → StandOnce (values_of es)
once_placed [] sorted placed = tt
once_placed {X} (e ∷ es) sorted placed =
    let rest = sorted_tail slot_cmp e.0 (keys_of es) sorted in
    let free : slot_at es e.0 ≡ None = none_at e.0 es (none_later e.0 es (sorted_head slot_cmp e.0 (keys_of es) sorted)) in (
      find_value (values_of es) e.1.0 ∙ found es e.1.0 rest placed.1 ∙ ap (its e.1.0) (ap (slot_at es) (sym placed.0) ∙ free),
      once_placed es rest placed.1,
    )
  where
    none_at : (s : Slot) (es : List (Slot × (DocKey × X))) → AllByRecursion (λ e. is_at (slot_cmp s) e.0 ≡ false) es → slot_at es s ≡ None
    none_at s [] h = refl
    none_at s (e ∷ es) h = ap (λ b. cond b (Some e.1) (slot_at es s)) h.0 ∙ none_at s es h.1

once_both : {X : Type 0} (xs ys : List (DocKey × X)) → StandOnce xs → StandOnce ys → ((q : DocKey) → is_some (value_at xs q) ≡ true → value_at ys q ≡ None) → StandOnce (xs ++ ys)
once_both [] ys h k apart = k
once_both {X} (e ∷ xs) ys h k apart = (
  find_value (xs ++ ys) e.0 ∙ lookup_both (is_at (key_cmp e.0)) xs ys ∙ ap (λ o. first_of o (value_at ys e.0)) (sym (find_value xs e.0) ∙ h.0)
      ∙ apart e.0 (ap (λ b. is_some (cond b (Some e.1) (value_at xs e.0))) (key_itself e.0)),
  once_both xs ys h.1 k (λ q is. apart q (later (is_at (key_cmp q) e.0) (value_at xs q) is)),
)
  where
    later : (b : Bool) (o : Option X) → is_some o ≡ true → is_some (cond b (Some e.1) o) ≡ true
    later true o is = refl
    later false o is = is

trees_once : {X : Type 0} (es : List (Slot × (DocKey × X))) (fs : List (DocKey × X)) → AreTrees es fs → StandOnce (values_of es ++ fs)
trees_once es fs h = once_both (values_of es) fs (once_placed es h.placed.sorted h.placed.placed) (once_sorted fs h.ordered) h.apart

map-append : {A B : Type 0} (f : A → B) (xs ys : List A) → list_map f (xs ++ ys) ≡ list_map f xs ++ list_map f ys
map-append f [] ys = refl
map-append f (x ∷ xs) ys = ap (λ l. f x ∷ l) (map-append f xs ys)

-- what stands in both trees are the values of the map
pub trees_values : {X : Type 0} (es : List (Slot × (DocKey × X))) (fs : List (DocKey × X)) (m : map.FinMap key_cmp X) (slots : List (DocKey × X)) (others : List X) → joined es fs ≡ m → AreTrees es fs → slots ≡ values_of es → others ≡ values_of fs → AreValues m (list_map (λ e. e.1) slots ++ others)
trees_values es fs m slots others view h is also = record {
  entries = values_of es ++ fs;
  once = trees_once es fs h;
  made = view;
  read = map-append (λ e. e.1) (values_of es) fs ∙ ap₂ (λ a b. list_map (λ e. e.1) a ++ b) (sym is) (sym also);
}

-- ---- what they count

total-append : {X : Type 0} (f : X → ℕ) (xs ys : List (DocKey × X)) → total f (xs ++ ys) ≡ total f xs + total f ys
total-append f xs ys =
    ap (λ l. sum (list_map f l)) (map-append (λ e. e.1) xs ys) ∙ ap sum (map-append f (list_map (λ e. e.1) xs) (list_map (λ e. e.1) ys))
    ∙ sum_by-append (λ n. n) (list_map f (list_map (λ e. e.1) xs)) (list_map f (list_map (λ e. e.1) ys))

map_both : {A B C : Type 0} (g : B → C) (f : A → B) (xs : List A) → list_map g (list_map f xs) ≡ list_map (λ x. g (f x)) xs
map_both g f [] = refl
map_both g f (x ∷ xs) = ap (λ l. g (f x) ∷ l) (map_both g f xs)

-- of what stands in slots, and of the others
abbrev pub slots_total : {X : Type 0} → (X → ℕ) → List (Slot × (DocKey × X)) → ℕ
slots_total f es = sum (list_map (λ e. f e.1.1) es)

abbrev pub others_total : {X : Type 0} → (X → ℕ) → List (DocKey × X) → ℕ
others_total f fs = sum (list_map (λ e. f e.1) fs)

total_slots : {X : Type 0} (f : X → ℕ) (es : List (Slot × (DocKey × X))) → total f (values_of es) ≡ slots_total f es
total_slots f es = ap sum (ap (list_map f) (map_both (λ e. e.1) (λ e. e.1) es) ∙ map_both f (λ e. e.1.1) es)

total_others : {X : Type 0} (f : X → ℕ) (fs : List (DocKey × X)) → total f fs ≡ others_total f fs
total_others f fs = ap sum (map_both f (λ e. e.1) fs)

pub trees_weight : {X : Type 0} (f : X → ℕ) (es : List (Slot × (DocKey × X))) (fs : List (DocKey × X)) (m : map.FinMap key_cmp X) → joined es fs ≡ m → AreTrees es fs → weight_of f m ≡ slots_total f es + others_total f fs
trees_weight f es fs m view h =
    ap (weight_of f) (sym view) ∙ weight_made f (values_of es ++ fs) (trees_once es fs h) ∙ total-append f (values_of es) fs ∙ ap₂ (λ a b. a + b) (total_slots f es) (total_others f fs)

pub collection_weight : {X : Type 0} (f : X → ℕ) (es : List (Slot × (DocKey × X))) (fs : List (DocKey × X)) (m : map.FinMap key_cmp X) (collection : ℕ) → joined es fs ≡ m → AreTrees es fs
    → weight_of f (of_collection collection m) ≡ slots_total f (filter (λ e. nat_eq e.0.collection collection) es) + others_total f (filter (λ e. nat_eq e.0.collection collection) fs)
collection_weight f es fs m collection view h =
    ap (λ x. weight_of f (of_collection collection x)) (sym view)
    ∙ weight_kept f (λ key. nat_eq key.collection collection) (values_of es ++ fs) (trees_once es fs h)
    ∙ ap (total f) (filter-append (λ e. nat_eq e.0.collection collection) (values_of es) fs)
    ∙ total-append f (filter (λ e. nat_eq e.0.collection collection) (values_of es)) (filter (λ e. nat_eq e.0.collection collection) fs)
    ∙ ap₂ (λ a b. a + b)
    (ap (total f) (sym (values_kept (λ id. nat_eq id collection) es h.placed.placed)) ∙ total_slots f (filter (λ e. nat_eq e.0.collection collection) es))
    (total_others f (filter (λ e. nat_eq e.0.collection collection) fs))

-- ---- counting what passes a test

abbrev pub sum_of : {A : Type 0} → (A → ℕ) → List A → ℕ
sum_of w xs = sum (list_map w xs)

sum_cons : {A : Type 0} (w : A → ℕ) (x : A) (xs : List A) → sum_of w (x ∷ xs) ≡ w x + sum_of w xs
sum_cons w x xs = sum_by-cons (λ n. n) (w x) (list_map w xs)

pub passing_le : {A : Type 0} (w : A → ℕ) (p : A → Bool) (xs : List A) → sum_of w (filter p xs) ≤ sum_of w xs
passing_le w p [] = omega arith
passing_le {A} w p (x ∷ xs) = go (p x) (passing_le w p xs)
  where
    go : (b : Bool) → sum_of w (filter p xs) ≤ sum_of w xs → sum_of w (cond b (x ∷ filter p xs) (filter p xs)) ≤ sum_of w (x ∷ xs)
    go true rest = let a = sum_cons w x (filter p xs) in let b = sum_cons w x xs in omega arith
    go false rest = let b = sum_cons w x xs in omega arith

-- what was counted and what is left to count are the whole
pub record Counts {A : Type 0} (w : A → ℕ) (p : A → Bool) (all left : List A) (n : ℕ) : Type 0 where
  pub whole : n + sum_of w (filter p left) ≡ sum_of w (filter p all)

pub counts_start : {A : Type 0} (w : A → ℕ) (p : A → Bool) (all left : List A) → left ≡ all → Counts w p all left 0
counts_start w p all left is = record { whole = let e = ap (λ l. sum_of w (filter p l)) is in omega arith }

passed : {A : Type 0} (w : A → ℕ) (p : A → Bool) (left more : List A) (x : A) → left ≡ x ∷ more → p x ≡ true → sum_of w (filter p left) ≡ w x + sum_of w (filter p more)
passed w p left more x is e = ap (λ l. sum_of w (filter p l)) is ∙ ap (λ b. sum_of w (cond b (x ∷ filter p more) (filter p more))) e ∙ sum_cons w x (filter p more)

failed : {A : Type 0} (w : A → ℕ) (p : A → Bool) (left more : List A) (x : A) → left ≡ x ∷ more → p x ≡ false → sum_of w (filter p left) ≡ sum_of w (filter p more)
failed w p left more x is e = ap (λ l. sum_of w (filter p l)) is ∙ ap (λ b. sum_of w (cond b (x ∷ filter p more) (filter p more))) e

pub counts_one : {A : Type 0} (w : A → ℕ) (p : A → Bool) (all left more : List A) (x : A) (n : ℕ) → Counts w p all left n → left ≡ x ∷ more → p x ≡ true → Counts w p all more (n + w x)
counts_one w p all left more x n h is e = record { whole = let k = passed w p left more x is e in let o = h.whole in omega arith }

pub counts_fit : {A : Type 0} (w : A → ℕ) (p : A → Bool) (all left more : List A) (x : A) (n : ℕ) → Counts w p all left n → left ≡ x ∷ more → p x ≡ true → n + w x ≤ sum_of w all
counts_fit w p all left more x n h is e = let k = passed w p left more x is e in let o = h.whole in omega (arith, passing_le w p all)

pub counts_none : {A : Type 0} (w : A → ℕ) (p : A → Bool) (all left more : List A) (x : A) (n : ℕ) → Counts w p all left n → left ≡ x ∷ more → p x ≡ false → Counts w p all more n
counts_none w p all left more x n h is e = record { whole = let k = failed w p left more x is e in let o = h.whole in omega arith }

pub counts_end : {A : Type 0} (w : A → ℕ) (p : A → Bool) (all left : List A) (n : ℕ) → Counts w p all left n → filter p left ≡ [] → n ≡ sum_of w (filter p all)
counts_end w p all left n h is = let e = ap (sum_of w) is in let o = h.whole in omega arith

-- ---- a walk over the slots of a collection

-- slots that ascend from a collection on
pub record StandFrom {X : Type 0} (collection : ℕ) (es : List (Slot × X)) : Type 0 where
  pub sorted : IsStrictlySortedBy slot_cmp (keys_of es)
  pub behind : AllByRecursion (λ e. collection ≤ e.0.collection) es

all_start : {X : Type 0} (collection : ℕ) (es : List (Slot × X)) → AllByRecursion (λ e. collection ≤ e.0.collection) (slots_from collection es)
all_start collection [] = tt
all_start {X} collection (e ∷ es) = go (slot_starts collection e.0) refl (all_start collection es)
  where
    go : (b : Bool) → slot_starts collection e.0 ≡ b → AllByRecursion (λ e. collection ≤ e.0.collection) (slots_from collection es) → AllByRecursion (λ e. collection ≤ e.0.collection) (cond b (e ∷ slots_from collection es) (slots_from collection es))
    go true is rest = (starts_behind collection e.0 is, rest)
    go false is rest = rest

pub stand_start : {X : Type 0} (collection : ℕ) (range es : List (Slot × X)) → range ≡ slots_from collection es → IsStrictlySortedBy slot_cmp (keys_of es) → StandFrom collection range
stand_start {X} collection range es is sorted =
    let P : List (Slot × X) → Type 0 = StandFrom collection in
    subst P (sym is) (record {
      sorted = subst (IsStrictlySortedBy slot_cmp) (sym (keys_filter (slot_starts collection) es)) (IsStrictlySortedBy-filter slot_cmp (slot_starts collection) (keys_of es) sorted);
      behind = all_start collection es;
    })

pub stand_more : {X : Type 0} (collection : ℕ) (left more : List (Slot × X)) (e : Slot × X) → StandFrom collection left → left ≡ e ∷ more → StandFrom collection more
stand_more {X} collection left more e h is =
    let P : List (Slot × X) → Type 0 = StandFrom collection in
    let k : StandFrom collection (e ∷ more) = subst P is h in
    record { sorted = sorted_tail slot_cmp e.0 (keys_of more) k.sorted; behind = k.behind.1 }

-- those that are counted stand in the range
pub range_start : {X : Type 0} (w : Slot × X → ℕ) (collection : ℕ) (range es : List (Slot × X)) → range ≡ slots_from collection es → Counts w (λ e. nat_eq e.0.collection collection) es range 0
range_start {X} w collection range es is = record {
  whole = let e = ap (sum_of w) (ap (filter (λ e. nat_eq e.0.collection collection)) is ∙ filter_both (λ e. slot_starts collection e.0) (λ e. nat_eq e.0.collection collection) (λ e. nat_eq e.0.collection collection) own es) in omega arith;
}
  where
    both : (e : Slot × X) (b c : Bool) → nat_eq e.0.collection collection ≡ b → slot_starts collection e.0 ≡ c → b ≡ (c && b)
    both e b true is at = refl
    both e false false is at = refl
    both e true false is at = absurd (let z : true ≡ false = sym (starts_own collection e.0 (eqb-true (e.0).collection collection is)) ∙ at in cc)

    own : (e : Slot × X) → nat_eq e.0.collection collection ≡ (slot_starts collection e.0 && nat_eq e.0.collection collection)
    own e = both e (nat_eq e.0.collection collection) (slot_starts collection e.0) refl refl

none_pass : {X : Type 0} (p : X → Bool) (xs : List X) → list_all (λ x. not (p x)) xs ≡ true → filter p xs ≡ []
none_pass p [] h = refl
none_pass {X} p (x ∷ xs) h = go (p x) h (λ k. none_pass p xs k)
  where
    go : (b : Bool) → (not b && list_all (λ x. not (p x)) xs) ≡ true → (list_all (λ x. not (p x)) xs ≡ true → filter p xs ≡ []) → cond b (x ∷ filter p xs) (filter p xs) ≡ []
    go true k rest = absurd (let z : false ≡ true = k in cc)
    go false k rest = rest k

-- behind a slot of another collection none of this one stands
pub none_left : {X : Type 0} (collection : ℕ) (left more : List (Slot × X)) (e : Slot × X) → StandFrom collection left → left ≡ e ∷ more → ((e.0).collection ≡ collection → ⊥) → filter (λ e. nat_eq e.0.collection collection) left ≡ []
none_left {X} collection left more e h is other =
    let P : List (Slot × X) → Type 0 = StandFrom collection in
    let k : StandFrom collection (e ∷ more) = subst P is h in
    let less : collection < (e.0).collection = later collection (e.0).collection k.behind.0 other in
    let rest : HasNone collection more = beyond collection e.0 more less (sorted_head slot_cmp e.0 (keys_of more) k.sorted) in
    ap (filter (λ e. nat_eq e.0.collection collection)) is
    ∙ ap (λ b. cond b (e ∷ filter (λ e. nat_eq e.0.collection collection) more) (filter (λ e. nat_eq e.0.collection collection) more)) (ne_eqb (e.0).collection collection other)
    ∙ none_pass (λ e. nat_eq e.0.collection collection) more rest
  where
    later : (a b : ℕ) → a ≤ b → (b ≡ a → ⊥) → a < b
    later a b h differs = omega arith
