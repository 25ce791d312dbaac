-- What a map has once items were laid over it, in whatever order.
use Rattle.std.specs.Prelude.{◌≡◌, Bool, true, false, cond, ◌||◌, List, [], ◌∷◌, Option, Some, None, refl}
use Rattle.std.specs.FinMap as map
use Rattle.std.specs.List.{list_any, AllByRecursion}
use Rattle.std.specs.Map.{values_of}
use Rattle.std.specs.Ordering.{is_eq, eq_by_cmp}
use Rattle.std.proofs.Common.{sym, ◌∙◌, ap}
use Rattle.std.proofs.lemmas.List.Sorted.{list_any-IsPermutation}
use Rattle.doc_model.specs.declared.key.DocKey.{DocKey}
use Rattle.doc_model.specs.declared.document.Item.{Item}
use Rattle.doc_model.specs.Keys.{key_cmp}
use Rattle.doc_model.proofs.Entries.{keys_total, same_key}
use Rattle.doc_model.proofs.Weights.{key_tied}
use Rattle.vb_log.specs.Flushing.{AreByPosition}
use Rattle.vb_log.specs.Held.{StandAtKeys}
use Rattle.magma_store.specs.Held.{with_items}
use Rattle.vb_core.specs.Means.{over}

-- whether one of the items is of a key
abbrev pub is_of : DocKey → List Item → Bool
is_of q items = list_any (λ (i : Item). eq_by_cmp key_cmp q i.key) items

-- each of the items is what a map has at its key
abbrev pub AreOwn : map.FinMap key_cmp Item → List Item → Type 0
AreOwn own items = AllByRecursion (λ (i : Item). map.get own i.key ≡ Some i) items

get_each : (own : map.FinMap key_cmp Item) (items : List Item) (m : map.FinMap key_cmp Item) (q : DocKey) → AreOwn own items
    → map.get (with_items m items) q ≡ cond (is_of q items) (map.get own q) (map.get m q)
get_each own [] m q h = refl
get_each own (i ∷ is) m q h = get_each own is (map.insert m i.key i) q h.1 ∙ step (eq_by_cmp key_cmp q i.key) refl (is_of q is)
  where
    at : (b : Bool) → eq_by_cmp key_cmp q i.key ≡ b → map.get (map.insert m i.key i) q ≡ cond b (Some i) (map.get m q)
    at b e = map.get-insert keys_total m i.key i q ∙ ap (λ c. cond c (Some i) (map.get m q)) e

    step : (b : Bool) → eq_by_cmp key_cmp q i.key ≡ b → (r : Bool)
        → cond r (map.get own q) (map.get (map.insert m i.key i) q) ≡ cond (b || r) (map.get own q) (map.get m q)
    step true e true = refl
    step true e false = at true e ∙ sym (ap (map.get own) (same_key q i.key e) ∙ h.0)
    step false e true = refl
    step false e false = at false e

-- a key of which the map has nothing is the key of none of the items
none_of : (own : map.FinMap key_cmp Item) (items : List Item) (q : DocKey) → AreOwn own items → map.get own q ≡ None → is_of q items ≡ true → ⊥
none_of own [] q h none e = absurd (cc)
none_of own (i ∷ is) q h none e = step (eq_by_cmp key_cmp q i.key) refl (none_of own is q h.1 none) e
  where
    step : (b : Bool) → eq_by_cmp key_cmp q i.key ≡ b → (is_of q is ≡ true → ⊥) → (b || is_of q is) ≡ true → ⊥
    step true same rest e =
        let has : map.get own q ≡ Some i = ap (map.get own) (same_key q i.key same) ∙ h.0 in
        absurd (cc)
    step false same rest e = rest e

or_true : (b : Bool) → (b || true) ≡ true
or_true true = refl
or_true false = refl

-- what entries have at a key is among their values
found_in : (es : List (DocKey × Item)) (q : DocKey) (x : Item) → map.find key_cmp q es ≡ Some x → is_of x.key (values_of es) ≡ true
found_in [] q x h = absurd (cc)
found_in (e ∷ es) q x h = by (is_eq (key_cmp q e.0)) (found_in es q x) h
  where
    by : (b : Bool) → (map.find key_cmp q es ≡ Some x → is_of x.key (values_of es) ≡ true) → cond b (Some e.1) (map.find key_cmp q es) ≡ Some x
        → (eq_by_cmp key_cmp x.key (e.1).key || is_of x.key (values_of es)) ≡ true
    by true rest h =
        let same : e.1 ≡ x = cc in
        ap (λ b. b || is_of x.key (values_of es)) (ap (λ (y : Item). eq_by_cmp key_cmp x.key y.key) same ∙ key_tied x.key)
    by false rest h = ap (λ b. eq_by_cmp key_cmp x.key (e.1).key || b) (rest h) ∙ or_true (eq_by_cmp key_cmp x.key (e.1).key)

-- what a map has is among its items, in whatever order they stand
pub is_among : (own : map.FinMap key_cmp Item) (items : List Item) (q : DocKey) (x : Item) → StandAtKeys own → AreByPosition own items → map.get own q ≡ Some x → is_of q items ≡ true
is_among own items q x stand by has =
    let at : map.find key_cmp q by.are.entries ≡ Some x = sym (map.get-from_entries keys_total by.are.entries q) ∙ ap (λ (m : map.FinMap key_cmp Item). map.get m q) by.are.made ∙ has in
    let in_values : is_of x.key by.values ≡ true = ap (is_of x.key) (sym by.are.read) ∙ found_in by.are.entries q x at in
    ap (λ k. is_of k items) (sym (stand q x has)) ∙ sym (list_any-IsPermutation (λ (i : Item). eq_by_cmp key_cmp x.key i.key) by.values items by.moved) ∙ in_values

-- what a key has once the items of a map were put over another: what the map has, or else what was there
pub get_over : (own : map.FinMap key_cmp Item) (items : List Item) (m : map.FinMap key_cmp Item) (q : DocKey) → StandAtKeys own → AreByPosition own items
    → map.get (with_items m items) q ≡ over (map.get own q) (map.get m q)
get_over own items m q stand by = get_each own items m q by.own ∙ go (map.get own q) refl (is_of q items) refl
  where
    go : (o : Option Item) → map.get own q ≡ o → (b : Bool) → is_of q items ≡ b → cond b o (map.get m q) ≡ over o (map.get m q)
    go (Some x) has true e = refl
    go (Some x) has false e = let there = is_among own items q x stand by has in absurd (cc)
    go None has true e = absurd (none_of own items q by.own has e)
    go None has false e = refl
