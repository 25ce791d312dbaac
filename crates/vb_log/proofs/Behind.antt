-- What of a content lies behind a position.
use Rattle.std.specs.Prelude.{◌≡◌, ℕ, ◌≤◌, nat_lt, filter, Bool, true, false, cond, List, [], ◌∷◌, Some, None, refl}
use Rattle.std.specs.List.{AllByRecursion}
use Rattle.std.specs.Ordering.{eq_by_cmp}
use Rattle.std.specs.FinMap as map
use Rattle.std.specs.FinMap.Entries.{find}
use Rattle.std.proofs.Common.{sym, ◌∙◌, ap, subst, arith}
use Rattle.doc_model.specs.declared.key.DocKey.{DocKey}
use Rattle.doc_model.specs.declared.document.Item.{Item}
use Rattle.doc_model.specs.Keys.{key_cmp}
use Rattle.doc_model.specs.Values.{StandOnce, AreValues}
use Rattle.doc_model.proofs.Drops.{entries_kept}
use Rattle.doc_model.proofs.Entries.{keys_total, same_key}
use Rattle.doc_model.proofs.Weights.{once_kept, weight_part}
use Rattle.manifest_rules.specs.Catalog.{Catalog}
use Rattle.manifest_rules.specs.State.{is_kept}
use Rattle.vb_log.specs.declared.entry.Pending.{Pending}
use Rattle.vb_log.specs.Content.{Content, has_collection}
use Rattle.vb_log.specs.Held.{item_weight, StandAtKeys, AreThere, positions_within, IsHeld}
use Rattle.vb_log.specs.Joining.{part_size, AreBehind, IsPart}
use Rattle.vb_log.specs.Parts.{is_behind, difference}
use Rattle.vb_log.specs.Sizes.{size}
use Rattle.vb_log.specs.Wholes.{by_keys}
use Rattle.vb_log.proofs.Sorting.{itself, are_own}

-- the items that pass
abbrev pub those_behind : ℕ → List Item → List Item
those_behind from items = filter (λ (i : Item). nat_lt from i.seqno) items

-- the next one passes, or doesn't
pub behind_more : (from : ℕ) (i : Item) (items : List Item) → those_behind from (i ∷ items) ≡ cond (nat_lt from i.seqno) (i ∷ those_behind from items) (those_behind from items)
behind_more from i items = refl

no_some : {A : Type 0} (a : A) → None ≡ Some a → ⊥
no_some a e = absurd (cc)

-- each of items that stand once is found at its key
each_found : (items : List Item) → StandOnce (by_keys items) → AllByRecursion (λ (i : Item). find key_cmp i.key (by_keys items) ≡ Some i) items
each_found [] once = tt
each_found (i ∷ items) once = (
  ap (λ b. cond b (Some i) (find key_cmp i.key (by_keys items))) (itself i.key),
  later items (each_found items once.1),
)
  where
    one : (j : Item) → find key_cmp j.key (by_keys items) ≡ Some j → (b : Bool) → eq_by_cmp key_cmp j.key i.key ≡ b → cond b (Some i) (find key_cmp j.key (by_keys items)) ≡ Some j
    one j f true e = absurd (no_some j (sym once.0 ∙ ap (λ k. find key_cmp k (by_keys items)) (sym (same_key j.key i.key e)) ∙ f))
    one j f false e = f

    later : (js : List Item) → AllByRecursion (λ (j : Item). find key_cmp j.key (by_keys items) ≡ Some j) js → AllByRecursion (λ (j : Item). find key_cmp j.key (by_keys (i ∷ items)) ≡ Some j) js
    later [] h = tt
    later (j ∷ js) h = (one j h.0 (eq_by_cmp key_cmp j.key i.key) refl, later js h.1)

-- the items of a map are those that their keys have
pub each_own : (m : map.FinMap key_cmp Item) (items : List Item) → StandOnce (by_keys items) → map.from_entries (by_keys items) ≡ m → AllByRecursion (λ (i : Item). map.get m i.key ≡ Some i) items
each_own m items once made = go items (each_found items once)
  where
    go : (js : List Item) → AllByRecursion (λ (j : Item). find key_cmp j.key (by_keys items) ≡ Some j) js → AllByRecursion (λ (j : Item). map.get m j.key ≡ Some j) js
    go [] h = tt
    go (j ∷ js) h = (ap (λ n. map.get n j.key) (sym made) ∙ map.get-from_entries keys_total (by_keys items) j.key ∙ h.0, go js h.1)

kept_own : (P : Item → Type 0) (test : Item → Bool) (items : List Item) → AllByRecursion P items → AllByRecursion P (filter test items)
kept_own P test [] h = tt
kept_own P test (i ∷ items) h = go (test i) (kept_own P test items h.1)
  where
    go : (b : Bool) → AllByRecursion P (filter test items) → AllByRecursion P (cond b (i ∷ filter test items) (filter test items))
    go true rest = (h.0, rest)
    go false rest = rest

-- to test items is to test what their keys have
same_tests : (m : map.FinMap key_cmp Item) (from : ℕ) (items : List Item) → AllByRecursion (λ (i : Item). map.get m i.key ≡ Some i) items
    → filter (λ (e : DocKey × Item). is_behind from (map.get m e.0)) (by_keys items) ≡ by_keys (those_behind from items)
same_tests m from [] h = refl
same_tests m from (i ∷ items) h =
    ap (λ b. cond b ((i.key, i) ∷ filter (λ (e : DocKey × Item). is_behind from (map.get m e.0)) (by_keys items)) (filter (λ (e : DocKey × Item). is_behind from (map.get m e.0)) (by_keys items))) (ap (is_behind from) h.0)
    ∙ ap (λ l. cond (nat_lt from i.seqno) ((i.key, i) ∷ l) l) (same_tests m from items h.1)
    ∙ go (nat_lt from i.seqno)
  where
    go : (b : Bool) → cond b ((i.key, i) ∷ by_keys (those_behind from items)) (by_keys (those_behind from items)) ≡ by_keys (cond b (i ∷ those_behind from items) (those_behind from items))
    go true = refl
    go false = refl

-- those of a map that lie behind a position
pub all_behind : (m : map.FinMap key_cmp Item) (items : List Item) (from : ℕ) → AreValues m items → StandAtKeys m → AreBehind m from (those_behind from items)
all_behind m items from v at =
    let o = are_own m items v at in
    let own = each_own m items o.once o.made in
    let same = same_tests m from items own in
    record {
      once = subst StandOnce same (once_kept (λ key. is_behind from (map.get m key)) (by_keys items) o.once);
      made = ap map.from_entries (sym same) ∙ entries_kept (λ key. is_behind from (map.get m key)) (by_keys items) ∙ ap (λ n. map.retain_keys n (λ key. is_behind from (map.get m key))) o.made;
      own = kept_own (λ (i : Item). map.get m i.key ≡ Some i) (λ (i : Item). nat_lt from i.seqno) items own;
    }

-- ---- a part of a content

-- items that keys have are in collections that are there
pub there_own : (manifest : Catalog) (m : map.FinMap key_cmp Item) (items : List Item) → AreThere manifest m → AllByRecursion (λ (i : Item). map.get m i.key ≡ Some i) items → AllByRecursion (λ (i : Item). has_collection manifest i.key.collection ≡ true) items
there_own manifest m [] there h = tt
there_own manifest m (i ∷ items) there h = (go (has_collection manifest i.key.collection) refl, there_own manifest m items there h.1)
  where
    go : (b : Bool) → has_collection manifest i.key.collection ≡ b → b ≡ true
    go true e = refl
    go false e = absurd (no_some i (sym (there i.key e) ∙ h.0))

pub part_held : (c : Content) (from : ℕ) (copied : List Item) (prepares : List Pending) (manifest : Catalog) → IsHeld c → AreBehind c.items from copied → prepares ≡ c.prepares → manifest ≡ c.manifest → IsPart copied prepares manifest c.length
part_held c from copied prepares manifest h b same also = record {
  once = b.once;
  there = subst (λ m. AllByRecursion (λ (i : Item). has_collection m i.key.collection ≡ true) copied) (sym also) (there_own c.manifest c.items copied h.there b.own);
  kept = subst (λ m. is_kept m ≡ true) (sym also) h.kept;
  within = ap (positions_within c.length) same ∙ h.within;
}

pub part_is : (c : Content) (from : ℕ) (copied : List Item) (prepares : List Pending) (manifest : Catalog) → AreBehind c.items from copied → prepares ≡ c.prepares → manifest ≡ c.manifest
    → record { from = from; end = c.length; items = map.from_entries (by_keys copied); prepares = prepares; manifest = manifest; greatest_cas = c.greatest_cas } ≡ difference c from
part_is c from copied prepares manifest b same also = λ i. record { from = from; end = c.length; items = b.made i; prepares = same i; manifest = also i; greatest_cas = c.greatest_cas }

-- it counts no more than the content
pub part_small : (c : Content) (from : ℕ) → part_size (difference c from) ≤ size c
part_small c from = let less = weight_part item_weight c.items (λ key. is_behind from (map.get c.items key)) in omega arith
