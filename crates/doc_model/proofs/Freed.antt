-- Slots of a collection that are freed, and what is left of the trees.
use Rattle.std.specs.Prelude.{◌≡◌, ℕ, ◌<◌, ◌≤◌, Bool, true, false, cond, not, ◌&&◌, ◌||◌, nat_eq, filter, List, [], ◌∷◌, ◌++◌, refl}
use Rattle.std.specs.declared.cmp.Ordering.{Ordering}
use Rattle.std.specs.declared.cmp.Ordering.TheVariants.{Less, Equal, Greater}
use Rattle.std.specs.declared.ops.Bound.TheVariants.{Included, Unbounded}
use Rattle.std.specs.List.{list_all, list_any, All, AllByRecursion}
use Rattle.std.specs.List.Sorted.{IsStrictlySortedBy}
use Rattle.std.specs.Map.{keys_of, values_of, remove_entry}
use Rattle.std.specs.Ordering.{nat_cmp, ordering_then, is_gt, is_le}
use Rattle.std.specs.Cmp.{first_so}
use Rattle.std.specs.BTreeMap.{is_at}
use Rattle.std.specs.BTreeMap.Range.{range_contains, entries_between}
use Rattle.std.specs.FinMap as map
use Rattle.std.proofs.Common.{sym, ◌∙◌, ap, ap₂, subst, arith, inl, inr, ◌⊎◌, eq-eqb}
use Rattle.std.proofs.lemmas.Bool.{and_from, or_right, ne_eqb, cases_lt}
use Rattle.std.proofs.lemmas.Cmp.{nat_cmp_total, tied_itself}
use Rattle.std.proofs.lemmas.List.Elements.{All-head, filter-append, filter_passes}
use Rattle.std.proofs.lemmas.List.Kept.{IsStrictlySortedBy-filter}
use Rattle.std.proofs.lemmas.Map.Keys.{sorted_head, le_from_not_gt}
use Rattle.std.proofs.lemmas.Map.Made.{is_some-lookup}
use Rattle.doc_model.specs.declared.key.DocKey.{DocKey}
use Rattle.doc_model.specs.declared.slot.Slot.{Slot}
use Rattle.doc_model.specs.Keys.{key_cmp, is_among_ids}
use Rattle.doc_model.specs.Slots.{slot_cmp, slot_of, ArePlaced, HasNone, HasFirst}
use Rattle.doc_model.proofs.Drops.{entries_kept}
use Rattle.doc_model.proofs.Slots.{InPlace, joined, same_slot}

-- ---- filters

keep_or : {X : Type 0} (b : Bool) (e : X) (xs ys : List X) → xs ≡ ys → cond b (e ∷ xs) xs ≡ cond b (e ∷ ys) ys
keep_or b e xs ys h = ap (λ l. cond b (e ∷ l) l) h

-- a filter that leaves out an entry doesn't see whether it is there
filter_removed : {K X : Type 0} (test : K → Bool) (p : K → Bool) → ((k : K) → test k ≡ true → p k ≡ false) → (es : List (K × X)) → filter (λ e. p e.0) (remove_entry test es) ≡ filter (λ e. p e.0) es
filter_removed test p h [] = refl
filter_removed {K} {X} test p h (e ∷ es) =
    elim (test e.0) as (λ b. test e.0 ≡ b → filter (λ e. p e.0) (cond b es (e ∷ remove_entry test es)) ≡ cond (p e.0) (e ∷ filter (λ e. p e.0) es) (filter (λ e. p e.0) es)) [
      | true ↦ λ is. ap (λ b. cond b (e ∷ filter (λ e. p e.0) es) (filter (λ e. p e.0) es)) (sym (h e.0 is))
      | false ↦ λ _. keep_or (p e.0) e _ _ (filter_removed test p h es)
    ] refl

pub filter_all : {X : Type 0} (p : X → Bool) (xs : List X) → list_all p xs ≡ true → filter p xs ≡ xs
filter_all p [] h = refl
filter_all {X} p (x ∷ xs) h =
    let first = first_so (p x) (list_all p xs) h in
    ap (λ b. cond b (x ∷ filter p xs) (filter p xs)) first ∙ ap (λ l. x ∷ l) (filter_all p xs (sym (ap (λ b. b && list_all p xs) first) ∙ h))

-- ---- the first slot of a collection

-- whether a slot stands at a collection's first or behind
abbrev pub slot_starts : ℕ → Slot → Bool
slot_starts collection = range_contains slot_cmp (Included (record { collection = collection; hash = 0 })) Unbounded

abbrev pub slots_from : {X : Type 0} → ℕ → List (Slot × X) → List (Slot × X)
slots_from collection es = entries_between slot_cmp (Included (record { collection = collection; hash = 0 })) Unbounded es

is_not_greater : (o p : Ordering) → is_le (ordering_then o p) ≡ true → is_gt o ≡ false
is_not_greater Less p e = refl
is_not_greater Equal p e = refl
is_not_greater Greater p e = absurd (cc)

is_not_above : (o p : Ordering) → ordering_then o p ≡ Less → is_gt o ≡ false
is_not_above Less p e = refl
is_not_above Equal p e = refl
is_not_above Greater p e = absurd (cc)

none_below : (n : ℕ) → is_le (nat_cmp 0 n) ≡ true
none_below n = by (cases_lt 0 n)
  where
    by : ((0 < n) ⊎ (n ≤ 0)) → is_le (nat_cmp 0 n) ≡ true
    by (inl h) = grind arith
    by (inr h) = grind arith

pub starts_behind : (collection : ℕ) (s : Slot) → slot_starts collection s ≡ true → collection ≤ s.collection
starts_behind collection s e = le_from_not_gt collection s.collection (is_not_greater (nat_cmp collection s.collection) (nat_cmp 0 s.hash) (first_so _ true e))

pub starts_own : (collection : ℕ) (s : Slot) → s.collection ≡ collection → slot_starts collection s ≡ true
starts_own collection s e =
    ap (λ n. is_le (ordering_then (nat_cmp collection n) (nat_cmp 0 s.hash)) && not false) e
    ∙ ap (λ o. is_le (ordering_then o (nat_cmp 0 s.hash)) && not false) (tied_itself nat_cmp_total collection)
    ∙ ap (λ b. b && not false) (none_below s.hash)

-- slots behind one of a later collection are of later ones
pub beyond : {X : Type 0} (collection : ℕ) (s : Slot) (es : List (Slot × X)) → collection < s.collection → AllByRecursion (λ t. slot_cmp s t ≡ Less) (keys_of es) → HasNone collection es
beyond collection s [] less above = refl
beyond collection s (e ∷ es) less above =
    let h : s.collection ≤ (e.0).collection = le_from_not_gt s.collection (e.0).collection (is_not_above (nat_cmp s.collection (e.0).collection) (nat_cmp s.hash (e.0).hash) above.0) in
    and_from (not (nat_eq (e.0).collection collection)) _ (ap not (ne_eqb (e.0).collection collection (λ same. omega arith))) (beyond collection s es less above.1)

-- where no slot from the collection's first on is of it, none is
none_from : {X : Type 0} (collection : ℕ) (es : List (Slot × X)) → HasNone collection (filter (λ e. slot_starts collection e.0) es) → HasNone collection es
none_from collection [] h = refl
none_from {X} collection (e ∷ es) h =
    elim (slot_starts collection e.0) as (λ b. slot_starts collection e.0 ≡ b → HasNone collection (cond b (e ∷ filter (λ e. slot_starts collection e.0) es) (filter (λ e. slot_starts collection e.0) es)) → HasNone collection (e ∷ es)) [
      | true ↦ λ is k. let first = first_so (not (nat_eq (e.0).collection collection)) _ k in and_from (not (nat_eq (e.0).collection collection)) _ first (none_from collection es (sym (ap (λ b. b && list_all (λ e. not (nat_eq e.0.collection collection)) (filter (λ e. slot_starts collection e.0) es)) first) ∙ k))
      | false ↦ λ is k.
          and_from (not (nat_eq (e.0).collection collection)) _
          (ap not (ne_eqb (e.0).collection collection (λ same. let p : true ≡ false = sym (starts_own collection e.0 same) ∙ is in cc)))
          (none_from collection es k)
    ] refl h

pub keys_filter : {K X : Type 0} (p : K → Bool) (es : List (K × X)) → keys_of (filter (λ e. p e.0) es) ≡ filter p (keys_of es)
keys_filter p [] = refl
keys_filter {K} {X} p (e ∷ es) =
    elim (p e.0) as (λ b. keys_of (cond b (e ∷ filter (λ e. p e.0) es) (filter (λ e. p e.0) es)) ≡ cond b (e.0 ∷ filter p (keys_of es)) (filter p (keys_of es))) [
      | true ↦ ap (λ ks. e.0 ∷ ks) (keys_filter p es)
      | false ↦ keys_filter p es
    ]

-- nothing stands from the collection's first slot on
pub none_stands : {X : Type 0} (collection : ℕ) (range es : List (Slot × X)) → range ≡ slots_from collection es → range ≡ [] → HasNone collection es
none_stands collection range es is none = none_from collection es (ap (list_all (λ e. not (nat_eq e.0.collection collection))) (sym is ∙ none))

head_passes : {X : Type 0} (collection : ℕ) (es more : List (Slot × X)) (e : Slot × X) → filter (λ e. slot_starts collection e.0) es ≡ e ∷ more → slot_starts collection e.0 ≡ true
head_passes {X} collection es more e is =
    let P : Slot × X → Type 0 = λ x. slot_starts collection x.0 ≡ true in
    let Q : List (Slot × X) → Type 0 = λ l. All P l in
    All-head P e more (subst Q is (filter_passes (λ e. slot_starts collection e.0) es))

-- the first that stands there is of another collection
pub other_stands : {X : Type 0} (collection : ℕ) (range es more : List (Slot × X)) (e : Slot × X) → range ≡ slots_from collection es → range ≡ e ∷ more → IsStrictlySortedBy slot_cmp (keys_of es) → ((e.0).collection ≡ collection → ⊥) → HasNone collection es
other_stands {X} collection range es more e is first sorted other =
    let shown : filter (λ e. slot_starts collection e.0) es ≡ e ∷ more = sym is ∙ first in
    let up : IsStrictlySortedBy slot_cmp (keys_of (filter (λ e. slot_starts collection e.0) es)) =
    subst (IsStrictlySortedBy slot_cmp) (sym (keys_filter (slot_starts collection) es)) (IsStrictlySortedBy-filter slot_cmp (slot_starts collection) (keys_of es) sorted) in
    let ups : IsStrictlySortedBy slot_cmp ((e.0) ∷ keys_of more) = subst (IsStrictlySortedBy slot_cmp) (ap keys_of shown) up in
    let low = starts_behind collection e.0 (head_passes collection es more e shown) in
    let less : collection < (e.0).collection = later collection (e.0).collection low other in
    none_from collection es
    (ap (list_all (λ e. not (nat_eq e.0.collection collection))) shown
    ∙ and_from (not (nat_eq (e.0).collection collection)) _ (ap not (ne_eqb (e.0).collection collection other)) (beyond collection e.0 more less (sorted_head slot_cmp e.0 (keys_of more) ups)))
  where
    later : (a b : ℕ) → a ≤ b → (b ≡ a → ⊥) → a < b
    later a b h differs = omega arith

any_filter : {K X : Type 0} (test : K → Bool) (p : K → Bool) (es : List (K × X)) → list_any test (keys_of (filter (λ e. p e.0) es)) ≡ true → list_any test (keys_of es) ≡ true
any_filter test p [] h = h
any_filter {K} {X} test p (e ∷ es) h =
    elim (p e.0) as (λ b. list_any test (keys_of (cond b (e ∷ filter (λ e. p e.0) es) (filter (λ e. p e.0) es))) ≡ true → list_any test (keys_of (e ∷ es)) ≡ true) [
      | true ↦ λ k. elim (test e.0) as (λ c. (c || list_any test (keys_of (filter (λ e. p e.0) es))) ≡ true → (c || list_any test (keys_of es)) ≡ true) [
        | true ↦ λ _. refl
        | false ↦ λ l. any_filter test p es l
      ] k
      | false ↦ λ k. or_right (test e.0) _ (any_filter test p es k)
    ] h

-- the first that stands there is of the collection
pub own_stands : {X : Type 0} (collection : ℕ) (range es more : List (Slot × X)) (e : Slot × X) → range ≡ slots_from collection es → range ≡ e ∷ more → (e.0).collection ≡ collection → is_at (slot_cmp e.0) e.0 ≡ true → HasFirst collection es e.0
own_stands collection range es more e is first same itself = record {
  its = same;
  taken =
      is_some-lookup (is_at (slot_cmp e.0)) es
      ∙ any_filter (is_at (slot_cmp e.0)) (slot_starts collection) es
      (ap (λ l. list_any (is_at (slot_cmp e.0)) (keys_of l)) (sym is ∙ first) ∙ ap (λ b. b || list_any (is_at (slot_cmp e.0)) (keys_of more)) itself);
}

-- ---- slots that are freed

-- a slot of the collection is freed
pub freed : {X : Type 0} (collection : ℕ) (slot : Slot) (es fs : List (Slot × X)) → slot.collection ≡ collection → fs ≡ remove_entry (is_at (slot_cmp slot)) es
    → filter (λ e. not (nat_eq e.0.collection collection)) fs ≡ filter (λ e. not (nat_eq e.0.collection collection)) es
freed collection slot es fs its is =
    ap (filter (λ e. not (nat_eq e.0.collection collection))) is
    ∙ filter_removed (is_at (slot_cmp slot)) (λ s. not (nat_eq s.collection collection)) (λ s at. ap not (eq-eqb s.collection collection (ap (λ t. t.collection) (sym (same_slot slot s at)) ∙ its))) es

pub all_freed : {X : Type 0} (collection : ℕ) (es fs : List (Slot × X)) → filter (λ e. not (nat_eq e.0.collection collection)) fs ≡ filter (λ e. not (nat_eq e.0.collection collection)) es → HasNone collection fs → fs ≡ filter (λ e. not (nat_eq e.0.collection collection)) es
all_freed collection es fs h none = sym (filter_all (λ e. not (nat_eq e.0.collection collection)) fs none) ∙ h

pub filter_both : {X : Type 0} (p q r : X → Bool) → ((x : X) → r x ≡ (p x && q x)) → (xs : List X) → filter q (filter p xs) ≡ filter r xs
filter_both p q r h [] = refl
filter_both {X} p q r h (x ∷ xs) =
    elim (p x) as (λ b. p x ≡ b → filter q (cond b (x ∷ filter p xs) (filter p xs)) ≡ cond (r x) (x ∷ filter r xs) (filter r xs)) [
      | true ↦ λ is. ap (λ l. cond (q x) (x ∷ l) l) (filter_both p q r h xs) ∙ ap (λ b. cond b (x ∷ filter r xs) (filter r xs)) (sym (h x ∙ ap (λ b. b && q x) is))
      | false ↦ λ is. filter_both p q r h xs ∙ ap (λ b. cond b (x ∷ filter r xs) (filter r xs)) (sym (h x ∙ ap (λ b. b && q x) is))
    ] refl

neither : (a b : Bool) → not (a || b) ≡ (not a && not b)
neither true b = refl
neither false b = refl

-- one collection more is gone
pub one_less : {X : Type 0} (some more : List ℕ) (collection : ℕ) (es fs gs : List (Slot × X)) → ((id : ℕ) → is_among_ids more id ≡ (is_among_ids some id || nat_eq id collection)) → fs ≡ filter (λ e. not (is_among_ids some e.0.collection)) es
    → gs ≡ filter (λ e. not (nat_eq e.0.collection collection)) fs → gs ≡ filter (λ e. not (is_among_ids more e.0.collection)) es
one_less some more collection es fs gs told h is =
    is ∙ ap (filter (λ e. not (nat_eq e.0.collection collection))) h
    ∙ filter_both (λ e. not (is_among_ids some e.0.collection)) (λ e. not (nat_eq e.0.collection collection)) (λ e. not (is_among_ids more e.0.collection))
    (λ e. ap not (told (e.0).collection) ∙ neither (is_among_ids some (e.0).collection) (nat_eq (e.0).collection collection)) es

pub none_less : {X : Type 0} (es : List (Slot × X)) → es ≡ filter (λ e. not (is_among_ids [] e.0.collection)) es
none_less [] = refl
none_less (e ∷ es) = ap (λ l. e ∷ l) (none_less es)

-- ---- the map that is left

in_place_kept : {X : Type 0} (p : Slot → Bool) (es : List (Slot × (DocKey × X))) → InPlace es → InPlace (filter (λ e. p e.0) es)
in_place_kept p [] h = tt
in_place_kept {X} p (e ∷ es) h =
    elim (p e.0) as (λ b. InPlace (cond b (e ∷ filter (λ e. p e.0) es) (filter (λ e. p e.0) es))) [
      | true ↦ (h.0, in_place_kept p es h.1)
      | false ↦ in_place_kept p es h.1
    ]

pub placed_kept : {X : Type 0} (p : Slot → Bool) (es fs : List (Slot × (DocKey × X))) → fs ≡ filter (λ e. p e.0) es → ArePlaced es → ArePlaced fs
placed_kept {X} p es fs is h =
    let P : List (Slot × (DocKey × X)) → Type 0 = ArePlaced in
    subst P (sym is) (record {
      sorted = subst (IsStrictlySortedBy slot_cmp) (sym (keys_filter p es)) (IsStrictlySortedBy-filter slot_cmp p (keys_of es) h.sorted);
      placed = in_place_kept p es h.placed;
    })

slot_collection : (key : DocKey) → (slot_of key).collection ≡ key.collection
unfolding slot_of
slot_collection key = refl

pub values_kept : {X : Type 0} (p : ℕ → Bool) (es : List (Slot × (DocKey × X))) → InPlace es → values_of (filter (λ e. p e.0.collection) es) ≡ filter (λ e. p e.0.collection) (values_of es)
values_kept p [] placed = refl
values_kept {X} p (e ∷ es) placed =
    elim (p (e.0).collection) as (λ b. p (e.1.0).collection ≡ b → values_of (cond b (e ∷ filter (λ e. p e.0.collection) es) (filter (λ e. p e.0.collection) es)) ≡ cond (p (e.1.0).collection) (e.1 ∷ filter (λ e. p e.0.collection) (values_of es)) (filter (λ e. p e.0.collection) (values_of es))) [
      | true ↦ λ is. ap (λ l. e.1 ∷ l) (values_kept p es placed.1) ∙ ap (λ b. cond b (e.1 ∷ filter (λ e. p e.0.collection) (values_of es)) (filter (λ e. p e.0.collection) (values_of es))) (sym is)
      | false ↦ λ is. values_kept p es placed.1 ∙ ap (λ b. cond b (e.1 ∷ filter (λ e. p e.0.collection) (values_of es)) (filter (λ e. p e.0.collection) (values_of es))) (sym is)
    ] (ap p (sym (ap (λ s. s.collection) placed.0 ∙ slot_collection e.1.0)))

-- without the collections in both trees, the map is without them
pub both_kept : {X : Type 0} (p : ℕ → Bool) (es es' : List (Slot × (DocKey × X))) (fs fs' : List (DocKey × X)) (m : map.FinMap key_cmp X) → ArePlaced es → joined es fs ≡ m → es' ≡ filter (λ e. p e.0.collection) es → fs' ≡ filter (λ e. p e.0.collection) fs
    → joined es' fs' ≡ map.retain_keys m (λ key. p key.collection)
both_kept p es es' fs fs' m h view is others =
    ap₂ (λ a b. joined a b) is others
    ∙ ap (λ l. map.from_entries (l ++ filter (λ e. p e.0.collection) fs)) (values_kept p es h.placed)
    ∙ ap map.from_entries (sym (filter-append (λ e. p e.0.collection) (values_of es) fs))
    ∙ entries_kept (λ key. p key.collection) (values_of es ++ fs)
    ∙ ap (λ x. map.retain_keys x (λ key. p key.collection)) view
