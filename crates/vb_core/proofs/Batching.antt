-- The batch that is put on disk: what it counts, and what the store's items are once it is there.
use Rattle.std.specs.Prelude.{◌≡◌, ◌≤◌, ◌<◌, ℕ, ◌+◌, nat_eq, nat_lt, Bool, true, false, cond, not, sum, map as list_map, List, [], ◌∷◌, length, IsTrue, Option, Some, None, if◌then◌else◌, ◌||◌, refl}
use Rattle.std.specs.FinMap as map
use Rattle.std.specs.List.{list_any, AllByRecursion}
use Rattle.std.specs.Ordering.{eq_by_cmp}
use Rattle.std.proofs.Common.{sym, ◌∙◌, ap, ap₂, subst, arith}
use Rattle.std.proofs.lemmas.Bool.Decides.{nat_tests}
use Rattle.std.proofs.lemmas.List.Sorted.{sum_by-IsPermutation}
use Rattle.std.proofs.lemmas.List.Sums.{sum-map}
use Rattle.doc_model.specs.declared.key.DocKey.{DocKey}
use Rattle.doc_model.specs.declared.document.Item.{Item}
use Rattle.doc_model.specs.Keys.{key_cmp}
use Rattle.doc_model.specs.Values.{weight_of}
use Rattle.doc_model.proofs.Drops.{get_kept}
use Rattle.doc_model.proofs.Entries.{exact_keys, keys_total, same_key}
use Rattle.doc_model.proofs.Weights.{weight_listed}
use Rattle.manifest_rules.specs.Catalog.{Catalog}
use Rattle.manifest_rules.specs.State.{is_kept}
use Rattle.vb_log.specs.Content.{Content, has_collection}
use Rattle.vb_log.specs.Contents.{item_bytes}
use Rattle.vb_log.specs.Flushing.{AreByPosition}
use Rattle.vb_log.specs.Held.{items_size, StandAtKeys}
use Rattle.vb_log.specs.Parts.{difference, is_behind}
use Rattle.magma_store.specs.Held.{with_items}
use Rattle.magma_store.specs.Layout.{record_size, write_size}
use Rattle.magma_store.proofs.Writings.{none_dropped}
use Rattle.vb_core.specs.Flat.{batch_of, tail_of, size_of_write}
use Rattle.vb_core.specs.Means.{beneath, over, uncovered, Shows, MadeUpTo, MadeBehind}
use Rattle.vb_core.proofs.Covering.{all_shown}
use Rattle.vb_core.proofs.Laid.{is_of, is_among, get_over}

-- ---- what the items in memory are

-- the items that are put on disk, as a map
abbrev pub items_put : Bool → ℕ → Content → map.FinMap key_cmp Item
items_put is_anew n log = if is_anew then log.items else (difference log n).items

batch_weight : (is_anew : Bool) (n : ℕ) (log : Content) (f : Item → ℕ) → sum (list_map f (batch_of is_anew n log)) ≡ weight_of f (items_put is_anew n log)
batch_weight true n log f = refl
batch_weight false n log f = refl

over_none : (o : Option Item) → over o None ≡ o
over_none (Some i) = refl
over_none None = refl

-- what is left of a key of a map that keeps some keys, was there
kept_some : (b : Bool) (o : Option Item) (i : Item) → cond b o None ≡ Some i → o ≡ Some i
kept_some true o i e = e
kept_some false o i e = absurd (cc)

is_later : (n : ℕ) (i : Item) → n < i.seqno → nat_lt n i.seqno ≡ true
is_later n i less = grind (arith, nat_tests)

isnt_later : (n : ℕ) (i : Item) → i.seqno ≤ n → nat_lt n i.seqno ≡ false
isnt_later n i most = grind (arith, nat_tests)

-- what is in memory is what lies behind what is on disk, or all where the log was begun anew
pub items_are : (is_anew : Bool) (n : ℕ) (recent log : Content) (showing : ℕ) (items : map.FinMap key_cmp Item) → Shows recent showing (beneath is_anew log.manifest items) log
    → (is_anew ≡ false → MadeUpTo n items) → (is_anew ≡ false → MadeBehind n recent.items) → recent.items ≡ items_put is_anew n log
items_are true n recent log showing items s on_disk recently =
    map.same_map keys_total exact_keys _ _ (λ q.
    sym (s.items q ∙ ap (over (map.get recent.items q)) (map.get-empty key_cmp q) ∙ over_none (map.get recent.items q)))
items_are false n recent log showing items s on_disk recently =
    map.same_map keys_total exact_keys _ _ (λ q.
    go q (map.get recent.items q) refl (map.get (beneath false log.manifest items) q) refl (s.items q)
    ∙ sym (get_kept log.items (λ key. is_behind n (map.get log.items key)) q))
  where
    go : (q : DocKey) (o : Option Item) → map.get recent.items q ≡ o → (u : Option Item) → map.get (beneath false log.manifest items) q ≡ u → map.get log.items q ≡ over o u
        → o ≡ cond (is_behind n (map.get log.items q)) (map.get log.items q) None
    go q (Some i) has u under at =
        sym (ap (λ (l : Option Item). cond (is_behind n l) l None) at ∙ ap (λ b. cond b (Some i) None) (is_later n i (recently refl q i has)))
    go q None has (Some i) under at =
        let there : map.get items q ≡ Some i =
        kept_some (not (list_any (nat_eq q.collection) log.manifest.dropped_collections)) (map.get items q) i
        (sym (get_kept items (λ key. not (list_any (nat_eq key.collection) log.manifest.dropped_collections)) q) ∙ under) in
        sym (ap (λ (l : Option Item). cond (is_behind n l) l None) at ∙ ap (λ b. cond b (Some i) None) (isnt_later n i (on_disk refl q i there)))
    go q None has None under at = sym (ap (λ (l : Option Item). cond (is_behind n l) l None) at)

-- what items count doesn't depend on their order
pub same_weight : (f : Item → ℕ) (own : map.FinMap key_cmp Item) (batch : List Item) → AreByPosition own batch → sum (list_map f batch) ≡ weight_of f own
same_weight f own batch by =
    sum-map f batch ∙ sum_by-IsPermutation f by.values batch by.moved ∙ sym (sum-map f by.values) ∙ sym (weight_listed f own by.values by.are)

pub size_is : (is_anew : Bool) (n : ℕ) (recent log : Content) (batch : List Item) (tail : List ℕ) → AreByPosition recent.items batch → tail ≡ tail_of log → recent.items ≡ items_put is_anew n log
    → write_size tail batch ≡ size_of_write is_anew n log
size_is is_anew n recent log batch tail by spelled are =
    let f : Item → ℕ = λ i. length (item_bytes i) in
    let counted : sum (list_map f batch) ≡ sum (list_map f (batch_of is_anew n log)) = same_weight f recent.items batch by ∙ ap (weight_of f) are ∙ sym (batch_weight is_anew n log f) in
    ap₂ (λ (l : List ℕ) k. record_size (49 + (length l + k))) spelled counted

-- ---- what the store's items are then

pub log_is : (is_anew : Bool) (recent log : Content) (showing : ℕ) (items : map.FinMap key_cmp Item) (batch : List Item) → Shows recent showing (beneath is_anew log.manifest items) log → StandAtKeys recent.items
    → AreByPosition recent.items batch → log.items ≡ with_items (beneath is_anew log.manifest items) batch
log_is is_anew recent log showing items batch s stand by =
    map.same_map keys_total exact_keys _ _ (λ q. s.items q ∙ sym (get_over recent.items batch (beneath is_anew log.manifest items) q stand by))

-- what is so of each item's key is so of a key that one of them has
all_of : (P : DocKey → Type 0) (items : List Item) (q : DocKey) → AllByRecursion (λ (i : Item). P i.key) items → is_of q items ≡ true → P q
all_of P [] q h e = absurd (cc)
all_of P (i ∷ is) q h e = step (eq_by_cmp key_cmp q i.key) refl (all_of P is q h.1) e
  where
    step : (b : Bool) → eq_by_cmp key_cmp q i.key ≡ b → (is_of q is ≡ true → P q) → (b || is_of q is) ≡ true → P q
    step true same rest e = subst P (sym (same_key q i.key same)) h.0
    step false same rest e = rest e

-- an item of a collection that is there isn't of one that was dropped
pub isnt_dropped : (manifest : Catalog) (i : Item) → IsTrue (is_kept manifest) → IsTrue (has_collection manifest i.key.collection) → list_any (nat_eq i.key.collection) manifest.dropped_collections ≡ false
isnt_dropped manifest i kept there = (none_dropped manifest manifest.dropped_collections 0 (i ∷ []) kept refl (there, tt)).0

-- nothing of a log is in a dropped collection
pub none_beneath : (is_anew : Bool) (recent log : Content) (showing : ℕ) (items : map.FinMap key_cmp Item) (batch : List Item) → Shows recent showing (beneath is_anew log.manifest items) log → StandAtKeys recent.items
    → AreByPosition recent.items batch → IsTrue (is_kept log.manifest) → AllByRecursion (λ (i : Item). IsTrue (has_collection log.manifest i.key.collection)) batch
    → (q : DocKey) → list_any (nat_eq q.collection) log.manifest.dropped_collections ≡ true → map.get log.items q ≡ None
none_beneath is_anew recent log showing items batch s stand by kept present q gone =
    s.items q ∙ go (map.get recent.items q) refl
  where
    under : (b : Bool) → map.get (beneath b log.manifest items) q ≡ None
    under true = map.get-empty key_cmp q
    under false =
        get_kept items (λ key. not (list_any (nat_eq key.collection) log.manifest.dropped_collections)) q ∙ ap (λ b. cond (not b) (map.get items q) None) gone

    go : (o : Option Item) → map.get recent.items q ≡ o → over o (map.get (beneath is_anew log.manifest items) q) ≡ None
    go (Some x) has =
        let there = all_of (λ k. IsTrue (has_collection log.manifest k.collection)) batch q present (is_among recent.items batch q x stand by has) in
        let at : IsTrue (has_collection log.manifest x.key.collection) = subst (λ (k : DocKey). IsTrue (has_collection log.manifest k.collection)) (sym (stand q x has)) there in
        let kept_apart = isnt_dropped log.manifest x kept at in
        let apart : list_any (nat_eq q.collection) log.manifest.dropped_collections ≡ false = ap (λ (k : DocKey). list_any (nat_eq k.collection) log.manifest.dropped_collections) (sym (stand q x has)) ∙ kept_apart in
        absurd (cc)
    go None has = under is_anew

-- the log's items show whole from beneath, once they are there
pub shows_whole : (log : Content) (q : DocKey) → (list_any (nat_eq q.collection) log.manifest.dropped_collections ≡ true → map.get log.items q ≡ None) → map.get (beneath false log.manifest log.items) q ≡ map.get log.items q
shows_whole log q none =
    get_kept log.items (λ key. not (list_any (nat_eq key.collection) log.manifest.dropped_collections)) q
    ∙ go (list_any (nat_eq q.collection) log.manifest.dropped_collections) refl
  where
    go : (b : Bool) → list_any (nat_eq q.collection) log.manifest.dropped_collections ≡ b → cond (not b) (map.get log.items q) None ≡ map.get log.items q
    go true e = sym (none e)
    go false e = refl

-- all of a log's items count, where none of them was changed of late
pub all_count : (log : Content) (under : map.FinMap key_cmp Item) (n : ℕ) → ((q : DocKey) → map.get under q ≡ map.get log.items q)
    → n ≡ items_size log.items → n ≡ items_size (uncovered map.empty under)
all_count log under n whole is = is ∙ ap items_size (sym (all_shown under ∙ map.same_map keys_total exact_keys under log.items whole))

-- the log shows from what is on disk alone
pub shows_after : (is_anew : Bool) (recent log : Content) (showing after : ℕ) (items : map.FinMap key_cmp Item) (batch : List Item) → Shows recent showing (beneath is_anew log.manifest items) log → StandAtKeys recent.items
    → AreByPosition recent.items batch → IsTrue (is_kept log.manifest) → AllByRecursion (λ (i : Item). IsTrue (has_collection log.manifest i.key.collection)) batch → after ≡ items_size log.items
    → Shows (record recent { items = map.empty }) after (beneath false log.manifest log.items) log
shows_after is_anew recent log showing after items batch s stand by kept present is = record {
  items = λ q. sym (ap (λ (o : Option Item). over o (map.get (beneath false log.manifest log.items) q)) (map.get-empty key_cmp q) ∙ whole q);
  count = all_count log (beneath false log.manifest log.items) after whole is;
  others = ap (λ (c : Content). record c { items = map.empty }) s.others;
}
  where
    whole : (q : DocKey) → map.get (beneath false log.manifest log.items) q ≡ map.get log.items q
    whole q = shows_whole log q (none_beneath is_anew recent log showing items batch s stand by kept present q)
