-- What lies over the items on disk, as entries are added.
use Rattle.std.specs.Prelude.{◌≡◌, ℕ, ◌+◌, nat_eq, is_some, is_none, Bool, true, false, cond, not, ◌||◌, sum, map as list_map, List, [], ◌∷◌, Option, Some, None, refl}
use Rattle.std.specs.List.{list_any, sum_by}
use Rattle.std.specs.Ordering.{eq_by_cmp}
use Rattle.std.specs.FinMap as map
use Rattle.std.proofs.Common.{sym, ◌∙◌, ap, arith, Bor}
use Rattle.std.proofs.lemmas.List.Sorted.{sum_by-IsPermutation}
use Rattle.std.proofs.lemmas.List.Sums.{sum-map}
use Rattle.doc_model.specs.declared.key.DocKey.{DocKey}
use Rattle.doc_model.specs.declared.document.Item.{Item}
use Rattle.doc_model.specs.Keys.{key_cmp, is_in}
use Rattle.doc_model.specs.Values.{weight_of}
use Rattle.doc_model.proofs.Entries.{exact_keys, keys_total}
use Rattle.doc_model.proofs.Drops.{get_kept}
use Rattle.doc_model.proofs.Weights.{counted_of, weight_none, weight_remove, weight_parts, weight_listed}
use Rattle.manifest_rules.specs.Ids.{SameIds}
use Rattle.vb_log.specs.Content.{without}
use Rattle.vb_log.specs.Flushing.{AreByPosition}
use Rattle.vb_log.specs.Held.{item_weight, items_size, StandAtKeys}
use Rattle.vb_log.specs.Sizes.{item_size}
use Rattle.magma_store.specs.declared.spot.Spot.{Spot}
use Rattle.magma_store.specs.Held.{items_left}
use Rattle.magma_store.specs.Spots.{spot_weight, size_at, spots_size}
use Rattle.vb_core.specs.Covering.{spots_shown, size_among, size_within}
use Rattle.vb_core.specs.Means.{over, uncovered}
use Rattle.vb_core.proofs.Counted.{same_count}

-- what each key has, and where it stands
abbrev pub Items : Type 0
Items = map.FinMap key_cmp Item

abbrev pub Spots : Type 0
Spots = map.FinMap key_cmp Spot

-- Items lie over others, and together they are these; what shows from beneath is known.
pub record Lies (recent shown under all : Items) : Type 0 where
  pub items : (key : DocKey) → map.get all key ≡ over (map.get recent key) (map.get under key)
  pub shown_is : shown ≡ uncovered recent under

-- what shows of a key
pub get_shown : {X : Type 0} (r : Items) (u : map.FinMap key_cmp X) (q : DocKey)
    → map.get (uncovered r u) q ≡ cond (is_none (map.get r q)) (map.get u q) None
get_shown r u q = get_kept u (λ key. is_none (map.get r key)) q

-- what a key's spot counts that shows, by whether the key was changed of late
pub shown_if : (r : Items) (spots : Spots) (q : DocKey) (b : Bool) → is_some (map.get r q) ≡ b
    → size_at (map.get (uncovered r spots) q) ≡ cond b 0 (size_at (map.get spots q))
shown_if r spots q b is = ap size_at (get_shown r spots q) ∙ go (map.get r q) b is
  where
    go : (o : Option Item) (b : Bool) → is_some o ≡ b → size_at (cond (is_none o) (map.get spots q) None) ≡ cond b 0 (size_at (map.get spots q))
    go None true e = absurd (cc)
    go None false e = refl
    go (Some i) true e = refl
    go (Some i) false e = absurd (cc)

-- where nothing lies over it, all shows
pub all_shown : {X : Type 0} (m : map.FinMap key_cmp X) → uncovered map.empty m ≡ m
all_shown {X} m = map.same_map keys_total exact_keys (uncovered map.empty m) m (λ q.
    get_shown map.empty m q ∙ ap (λ (o : Option Item). cond (is_none o) (map.get m q) None) (map.get-empty key_cmp q))

-- ---- what all count

counted_item : (o : Option Item) → counted_of item_weight o ≡ item_size o
counted_item None = refl
counted_item (Some i) = refl

counted_spot : (o : Option Spot) → counted_of spot_weight o ≡ size_at o
counted_spot None = refl
counted_spot (Some s) = refl

-- what all count is what lies above counts, and what shows from beneath
pub sizes_together : (r s u l : Items) → Lies r s u l → items_size l ≡ items_size r + items_size s
sizes_together r s u l h =
    let mine : map.retain_keys l (λ k. is_some (map.get r k)) ≡ r = map.same_map keys_total exact_keys
    (map.retain_keys l (λ k. is_some (map.get r k))) r (λ k.
    get_kept l (λ k. is_some (map.get r k)) k ∙ ap (λ o. cond (is_some (map.get r k)) o None) (h.items k)
    ∙ upper (map.get r k) (map.get u k)) in
    let rest : map.retain_keys l (λ k. not (is_some (map.get r k))) ≡ uncovered r u = map.same_map keys_total exact_keys
    (map.retain_keys l (λ k. not (is_some (map.get r k)))) (uncovered r u) (λ k.
    get_kept l (λ k. not (is_some (map.get r k))) k ∙ ap (λ o. cond (not (is_some (map.get r k))) o None) (h.items k)
    ∙ lower (map.get r k) (map.get u k) ∙ sym (get_shown r u k)) in
    let parts = weight_parts item_weight l (λ k. is_some (map.get r k)) in
    let a = ap items_size mine in
    let b = ap items_size (rest ∙ sym h.shown_is) in
    omega arith
  where
    upper : (o w : Option Item) → cond (is_some o) (over o w) None ≡ o
    upper None w = refl
    upper (Some i) w = refl

    lower : (o w : Option Item) → cond (not (is_some o)) (over o w) None ≡ cond (is_none o) w None
    lower None w = refl
    lower (Some i) w = refl

-- ---- what an entry covers

-- what is left of what shows, without a key, or else without some collections
abbrev pub without_covered : Items → Option DocKey → List ℕ → Items
without_covered shown (Some key) dropped = map.remove shown key
without_covered shown None dropped = map.retain_keys shown (λ key. not (is_in dropped key))

-- what shows of a key, or else of some collections
abbrev pub covered_among : Items → Option DocKey → List ℕ → ℕ
covered_among shown (Some key) dropped = item_size (map.get shown key)
covered_among shown None dropped = items_size (map.retain_keys shown (is_in dropped))

-- so much less is left
pub covered_less : (shown : Items) (covered : Option DocKey) (dropped : List ℕ)
    → items_size (without_covered shown covered dropped) + covered_among shown covered dropped ≡ items_size shown
covered_less shown (Some key) dropped =
    let a = weight_remove item_weight shown key in let b = counted_item (map.get shown key) in omega arith
covered_less shown None dropped = let a = weight_parts item_weight shown (is_in dropped) in omega arith

-- the key, or else the collections, aren't among those that were dropped
abbrev pub AreApart : List ℕ → Option DocKey → List ℕ → Type 0
AreApart gone (Some key) dropped = list_any (nat_eq key.collection) gone ≡ false
AreApart gone None dropped = (q : DocKey) → is_in dropped q ≡ true → list_any (nat_eq q.collection) gone ≡ false

-- spots tell what items count
abbrev pub TellSizes : Spots → Items → Type 0
TellSizes spots items = (q : DocKey) → size_at (map.get spots q) ≡ item_size (map.get items q)

-- what a spot tells of a key that shows, its item counts that shows
shown_told : (anew : Bool) (r items : Items) (gone : List ℕ) (spots : Spots) (q : DocKey) → TellSizes spots items
    → list_any (nat_eq q.collection) gone ≡ false
    → size_at (map.get (spots_shown anew r spots) q) ≡ item_size (map.get (uncovered r (items_left anew gone items)) q)
shown_told true r items gone spots q tell apart =
    ap size_at (map.get-empty key_cmp q)
    ∙ sym (ap item_size (get_shown r map.empty q ∙ ap (λ (o : Option Item). cond (is_none (map.get r q)) o None) (map.get-empty key_cmp q)
    ∙ none (is_none (map.get r q))))
  where
    none : (b : Bool) → (let o : Option Item = None in cond b o None) ≡ None
    none true = refl
    none false = refl
shown_told false r items gone spots q tell apart =
    ap size_at (get_shown r spots q) ∙ go (is_none (map.get r q)) (map.get spots q) (map.get items q) (tell q)
    ∙ sym (ap item_size (get_shown r (without items gone) q ∙ ap (λ (o : Option Item). cond (is_none (map.get r q)) o None)
    (get_kept items (λ key. not (list_any (nat_eq key.collection) gone)) q ∙ ap (λ b. cond (not b) (map.get items q) None) apart)))
  where
    go : (b : Bool) (s : Option Spot) (i : Option Item) → size_at s ≡ item_size i → size_at (cond b s None) ≡ item_size (cond b i None)
    go true s i e = e
    go false s i e = refl

-- what spots tell of what an entry covers is what is covered
pub covered_told : (anew : Bool) (r items : Items) (gone : List ℕ) (spots : Spots) (covered : Option DocKey) (dropped : List ℕ)
    → TellSizes spots items → AreApart gone covered dropped
    → size_among (spots_shown anew r spots) covered dropped ≡ covered_among (uncovered r (items_left anew gone items)) covered dropped
covered_told anew r items gone spots (Some key) dropped tell apart = shown_told anew r items gone spots key tell apart
covered_told anew r items gone spots None dropped tell apart =
    let s = spots_shown anew r spots in
    let i = uncovered r (items_left anew gone items) in
    same_count spot_weight item_weight (map.retain_keys s (is_in dropped)) (map.retain_keys i (is_in dropped)) (λ q.
    ap (counted_of spot_weight) (get_kept s (is_in dropped) q)
    ∙ go (is_in dropped q) (map.get s q) (map.get i q) (λ here. counted_spot (map.get s q)
    ∙ shown_told anew r items gone spots q tell (apart q here) ∙ sym (counted_item (map.get i q)))
    ∙ sym (ap (counted_of item_weight) (get_kept i (is_in dropped) q)))
  where
    go : (b : Bool) (s : Option Spot) (i : Option Item) → (b ≡ true → counted_of spot_weight s ≡ counted_of item_weight i)
        → counted_of spot_weight (cond b s None) ≡ counted_of item_weight (cond b i None)
    go true s i e = e refl
    go false s i e = refl

-- nothing shows where the log was begun anew
pub none_covered : (anew : Bool) (r : Items) (spots : Spots) (covered : Option DocKey) (dropped : List ℕ) → anew ≡ true
    → 0 ≡ size_among (spots_shown anew r spots) covered dropped
none_covered false r spots covered dropped e = absurd (cc)
none_covered true r spots (Some key) dropped e = sym (ap size_at (map.get-empty key_cmp key))
none_covered true r spots None dropped e =
    let none : map.FinMap key_cmp Spot = map.empty in
    sym (ap spots_size (map.same_map keys_total exact_keys (map.retain_keys none (is_in dropped)) none (λ q.
    get_kept none (is_in dropped) q ∙ ap (λ (o : Option Spot). cond (is_in dropped q) o None) (map.get-empty key_cmp q)
    ∙ go (is_in dropped q) ∙ sym (map.get-empty key_cmp q))) ∙ weight_none spot_weight)
  where
    go : (b : Bool) → (let o : Option Spot = None in cond b o None) ≡ None
    go true = refl
    go false = refl

-- behind a write all spots show
pub all_covered : (spots : Spots) (covered : Option DocKey) (dropped : List ℕ)
    → size_among spots covered dropped ≡ size_among (spots_shown false map.empty spots) covered dropped
all_covered spots covered dropped = ap (λ (m : Spots). size_among m covered dropped) (sym (all_shown spots))

-- what was changed of late counts on disk what doesn't show of some collections
pub changed_beside : (r : Items) (spots : Spots) (dropped : List ℕ) → StandAtKeys r
    → spots_size (map.retain_keys (uncovered r spots) (is_in dropped)) + weight_of (size_within dropped spots) r
    ≡ spots_size (map.retain_keys spots (is_in dropped))
changed_beside r spots dropped stand =
    let all = map.retain_keys spots (is_in dropped) in
    let parts = weight_parts spot_weight all (λ k. is_none (map.get r k)) in
    let a : spots_size (uncovered r all) ≡ spots_size (map.retain_keys (uncovered r spots) (is_in dropped)) =
    ap spots_size (map.same_map keys_total exact_keys (uncovered r all) (map.retain_keys (uncovered r spots) (is_in dropped)) (λ q.
    get_shown r all q ∙ ap (λ (o : Option Spot). cond (is_none (map.get r q)) o None) (get_kept spots (is_in dropped) q)
    ∙ turned (is_none (map.get r q)) (is_in dropped q) (map.get spots q)
    ∙ sym (get_kept (uncovered r spots) (is_in dropped) q ∙ ap (λ (o : Option Spot). cond (is_in dropped q) o None) (get_shown r spots q)))) in
    let b : weight_of (size_within dropped spots) r ≡ spots_size (map.retain_keys all (λ k. not (is_none (map.get r k)))) =
    same_count (size_within dropped spots) spot_weight r (map.retain_keys all (λ k. not (is_none (map.get r k)))) (λ q.
    go q (map.get r q) refl ∙ sym (ap (counted_of spot_weight) (get_kept all (λ k. not (is_none (map.get r k))) q
    ∙ ap (λ (o : Option Spot). cond (not (is_none (map.get r q))) o None) (get_kept spots (is_in dropped) q)))) in
    omega arith
  where
    turned : (a b : Bool) (o : Option Spot) → cond a (cond b o None) None ≡ cond b (cond a o None) None
    turned true true o = refl
    turned true false o = refl
    turned false true o = refl
    turned false false o = refl

    within : (b : Bool) (s : Option Spot) → (cond b (size_at s) 0) ≡ counted_of spot_weight (cond b s None)
    within true s = sym (counted_spot s)
    within false s = refl

    go : (q : DocKey) (o : Option Item) → map.get r q ≡ o
        → counted_of (size_within dropped spots) o ≡ counted_of spot_weight (cond (not (is_none o)) (cond (is_in dropped q) (map.get spots q) None) None)
    go q None at = refl
    go q (Some i) at = ap (λ (k : DocKey). cond (is_in dropped k) (size_at (map.get spots k)) 0) (stand q i at)
        ∙ within (is_in dropped q) (map.get spots q)

-- ---- an item is set

pub lies_with : (r u l : Items) (s : Items) (k : DocKey) (i : Item) → Lies r s u l
    → Lies (map.insert r k i) (map.remove s k) u (map.insert l k i)
lies_with r u l s k i h = record {
  items = λ q. map.get-insert keys_total l k i q ∙ above q (eq_by_cmp key_cmp q k)
      ∙ ap (λ o. over o (map.get u q)) (sym (map.get-insert keys_total r k i q));
  shown_is = map.same_map keys_total exact_keys (map.remove s k) (uncovered (map.insert r k i) u) (λ q.
      map.get-remove keys_total s k q
      ∙ ap (λ (o : Option Item). cond (eq_by_cmp key_cmp q k) None o) (ap (λ (m : Items). map.get m q) h.shown_is ∙ get_shown r u q)
      ∙ below (eq_by_cmp key_cmp q k) (map.get r q) (map.get u q)
      ∙ sym (get_shown (map.insert r k i) u q
      ∙ ap (λ (o : Option Item). cond (is_none o) (map.get u q) None) (map.get-insert keys_total r k i q)));
}
  where
    above : (q : DocKey) (b : Bool) → cond b (Some i) (map.get l q) ≡ over (cond b (Some i) (map.get r q)) (map.get u q)
    above q true = refl
    above q false = h.items q

    below : (b : Bool) (o w : Option Item) → cond b None (cond (is_none o) w None) ≡ cond (is_none (cond b (Some i) o)) w None
    below true o w = refl
    below false o w = refl

-- ---- collections are dropped

-- the ids that were ever dropped are those from before, and more
abbrev pub DropsMore : List ℕ → List ℕ → List ℕ → Type 0
DropsMore old more new = (id : ℕ) → list_any (nat_eq id) new ≡ (list_any (nat_eq id) more || list_any (nat_eq id) old)

left_with : (anew : Bool) (under : Items) (old more new : List ℕ) → DropsMore old more new
    → (q : DocKey) → map.get (items_left anew new under) q ≡ cond (not (list_any (nat_eq q.collection) more))
    (map.get (items_left anew old under) q) None
left_with true under old more new h q = map.get-empty key_cmp q
    ∙ sym (ap (λ o. cond (not (list_any (nat_eq q.collection) more)) o None) (map.get-empty key_cmp q)
    ∙ none (not (list_any (nat_eq q.collection) more)))
  where
    none : (b : Bool) → (let o : Option Item = None in cond b o None) ≡ None
    none true = refl
    none false = refl
left_with false under old more new h q =
    get_kept under (λ key. not (list_any (nat_eq key.collection) new)) q
    ∙ ap (λ b. cond (not b) (map.get under q) None) (h q.collection)
    ∙ go (list_any (nat_eq q.collection) more) (list_any (nat_eq q.collection) old) (map.get under q)
    ∙ ap (λ o. cond (not (list_any (nat_eq q.collection) more)) o None)
    (sym (get_kept under (λ key. not (list_any (nat_eq key.collection) old)) q))
  where
    go : (a b : Bool) (o : Option Item) → cond (not (a || b)) o None ≡ cond (not a) (cond (not b) o None) None
    go true b o = refl
    go false b o = refl

pub lies_without : (anew : Bool) (r under l : Items) (s : Items) (old more new dropped : List ℕ)
    → DropsMore old more new → SameIds dropped more
    → Lies r s (items_left anew old under) l → Lies (without r more) (map.retain_keys s (λ key. not (is_in dropped key)))
    (items_left anew new under) (without l more)
lies_without anew r under l s old more new dropped d same h = record {
  items = λ q.
      get_kept l (λ key. not (list_any (nat_eq key.collection) more)) q
      ∙ ap (λ o. cond (not (gone q)) o None) (h.items q)
      ∙ above (gone q) (map.get r q) (map.get (items_left anew old under) q)
      ∙ sym (ap (λ o. over o (map.get (items_left anew new under) q)) (get_kept r (λ key. not (list_any (nat_eq key.collection) more)) q)
      ∙ ap (over (cond (not (gone q)) (map.get r q) None)) (left_with anew under old more new d q));
  shown_is = map.same_map keys_total exact_keys (map.retain_keys s (λ key. not (is_in dropped key)))
      (uncovered (without r more) (items_left anew new under)) (λ q.
      get_kept s (λ key. not (is_in dropped key)) q
      ∙ ap (λ b. cond (not b) (map.get s q) None) (same q.collection)
      ∙ ap (λ (o : Option Item). cond (not (gone q)) o None) (ap (λ (m : Items). map.get m q) h.shown_is
      ∙ get_shown r (items_left anew old under) q)
      ∙ below (gone q) (map.get r q) (map.get (items_left anew old under) q)
      ∙ sym (get_shown (without r more) (items_left anew new under) q
      ∙ ap (λ (o : Option Item). cond (is_none o) (map.get (items_left anew new under) q) None)
      (get_kept r (λ key. not (list_any (nat_eq key.collection) more)) q)
      ∙ ap (λ (o : Option Item). cond (is_none (cond (not (gone q)) (map.get r q) None)) o None) (left_with anew under old more new d q)));
}
  where
    gone : DocKey → Bool
    gone q = list_any (nat_eq q.collection) more

    above : (b : Bool) (o w : Option Item) → cond (not b) (over o w) None ≡ over (cond (not b) o None) (cond (not b) w None)
    above true o w = refl
    above false o w = refl

    below : (b : Bool) (o w : Option Item)
        → cond (not b) (cond (is_none o) w None) None ≡ cond (is_none (cond (not b) o None)) (cond (not b) w None) None
    below true o w = refl
    below false o w = refl

-- ---- what was changed of late, item by item

-- what items on disk count beside those in memory, whose collections are among these
pub changed_rest : (r : Items) (spots : Spots) (dropped : List ℕ) (refs : List (Bor Item)) (n : ℕ) → StandAtKeys r
    → AreByPosition r (list_map (λ (i : Bor Item). i.now) refs) → n ≡ sum_by (λ (i : Bor Item). size_within dropped spots i.now) refs
    → spots_size (map.retain_keys (uncovered r spots) (is_in dropped)) + n ≡ spots_size (map.retain_keys spots (is_in dropped))
changed_rest r spots dropped refs n stand by is =
    let f : Item → ℕ = size_within dropped spots in
    let items = list_map (λ (i : Bor Item). i.now) refs in
    let all : n ≡ weight_of f r =
    is ∙ listed f refs ∙ sum_by-IsPermutation f by.values items by.moved ∙ sym (sum-map f by.values) ∙ sym (weight_listed f r by.values by.are) in
    let rest = changed_beside r spots dropped stand in
    omega arith
  where
    mapped : (f : Item → ℕ) (refs : List (Bor Item)) → list_map (λ (i : Bor Item). f i.now) refs ≡ list_map f (list_map (λ (i : Bor Item). i.now) refs)
    mapped f [] = refl
    mapped f (r ∷ refs) = ap (λ ns. f r.now ∷ ns) (mapped f refs)

    listed : (f : Item → ℕ) (refs : List (Bor Item)) → sum_by (λ (i : Bor Item). f i.now) refs ≡ sum_by f (list_map (λ (i : Bor Item). i.now) refs)
    listed f refs = sym (sum-map (λ (i : Bor Item). f i.now) refs) ∙ ap sum (mapped f refs) ∙ sum-map f (list_map (λ (i : Bor Item). i.now) refs)
