-- What holds of a vbucket and its copy as an entry is added.
use Rattle.std.specs.Prelude.{◌≡◌, ◌⊎◌, ℕ, ◌+◌, ◌-◌, ◌≤◌, ◌<◌, nat_eq, nat_lt, is_none, Bool, true, false, cond, not, ◌||◌, List, [], ◌∷◌, Option, Some, None, Result, Ok, Err, if◌then◌else◌, refl}
use Rattle.std.specs.List.{list_any}
use Rattle.std.specs.Option.{option_map_or}
use Rattle.std.specs.Ordering.{eq_by_cmp}
use Rattle.std.specs.Cmp.Lexicographic.{pointwise}
use Rattle.std.specs.FinMap as map
use Rattle.std.proofs.Common.{inl, inr, sym, ◌∙◌, ap, subst, arith}
use Rattle.std.proofs.lemmas.Bool.{and_parts, eqb-true}
use Rattle.doc_model.specs.declared.key.DocKey.{DocKey}
use Rattle.doc_model.specs.declared.document.Doc.{Doc}
use Rattle.doc_model.specs.declared.document.Item.{Item}
use Rattle.doc_model.specs.declared.document.What.TheVariants as whats
use Rattle.doc_model.specs.declared.status.Status.{Status}
use Rattle.doc_model.specs.declared.status.TheConstants.Status as status
use Rattle.doc_model.specs.Keys.{key_cmp}
use Rattle.doc_model.proofs.Entries.{keys_total}
use Rattle.doc_model.proofs.Drops.{get_kept}
use Rattle.manifest_rules.specs.Applying.{text_step}
use Rattle.manifest_rules.specs.Catalog.{Catalog, collection_ids}
use Rattle.manifest_rules.specs.Form.{manifest_in}
use Rattle.manifest_rules.specs.State.{is_kept}
use Rattle.manifest_rules.specs.Rules.{Step, manifest_step, same_scope, obeys, lost, succeeding}
use Rattle.manifest_rules.proofs.Gone.{with_ids-among}
use Rattle.vb_log.specs.declared.entry.Entry.{Entry}
use Rattle.vb_log.specs.declared.entry.Entry.TheVariants as entries
use Rattle.vb_log.specs.declared.limits.TheConstants.{GREATEST_POSITION}
use Rattle.vb_log.specs.Content.{Content, numbered, item_made, one_longer, without, with_step, with_entry, prepare_of, is_free, allowed}
use Rattle.vb_log.specs.Contents.{IsWhole}
use Rattle.vb_log.specs.Held.{items_size, waiting_size}
use Rattle.vb_log.specs.Prepares.{IsAllowedPending}
use Rattle.vb_log.specs.Logs.{folds}
use Rattle.vb_log.specs.Sizes.{size, size_after, entry_length}
use Rattle.vb_log.specs.Spelling.{IsAllowed, IsAllowedDoc, IsAllowedWhat}
use Rattle.vb_log.specs.Stored.{IsStorable}
use Rattle.replica_core.specs.declared.copy.CopyCore.{CopyCore}
use Rattle.magma_disk.specs.Device.{Device}
use Rattle.magma_store.specs.declared.meta.Meta.{Meta}
use Rattle.magma_store.proofs.Weights.{opened_at}
use Rattle.copy_model.specs.Copies.{Copy}
use Rattle.copy_model.specs.Entries.{core_of, added}
use Rattle.vb_core.specs.Covering.{covered_size, grown}
use Rattle.vb_core.specs.Making.{Covers}
use Rattle.vb_core.specs.Means.{beneath, uncovered, Shows, MadeUpTo, MadeBehind, Stands, Lives}
use Rattle.vb_core.specs.Shown.{ShownVb, AreStorable, IsFit}
use Rattle.vb_core.proofs.Batching.{isnt_dropped}
use Rattle.vb_core.proofs.Covering.{Items, Lies, sizes_together, without_covered, covered_among, covered_less, AreApart, TellSizes, covered_told, lies_with, DropsMore, lies_without}

-- ---- what a manifest drops

one_of : (ahead level same fine : Bool) (kept taken step : Step)
    → (if ahead then Err status.MANIFEST_IS_AHEAD
    else (if level then (if same then Ok kept else Err status.CANNOT_APPLY_MANIFEST)
    else (if fine then Ok taken else Err status.CANNOT_APPLY_MANIFEST))) ≡ Ok step
    → (kept ≡ step) ⊎ (taken ≡ step)
one_of true level same fine kept taken step e = absurd (cc)
one_of false true true fine kept taken step e = inl (cc)
one_of false true false fine kept taken step e = absurd (cc)
one_of false false same true kept taken step e = inr (cc)
one_of false false same false kept taken step e = absurd (cc)

step_drops : (old new : Catalog) (step : Step) → manifest_step old new ≡ Ok step
    → DropsMore old.dropped_collections step.dropped step.after.dropped_collections
step_drops old new step e =
    let kept : Step = record { after = old; dropped = []; changed = false } in
    let taken : Step = record { after = succeeding old new; dropped = lost (collection_ids old.scopes) (collection_ids new.scopes); changed = true } in
    let P : Step → Type 0 = λ s. DropsMore old.dropped_collections s.dropped s.after.dropped_collections in
    let went = one_of (nat_lt new.uid old.uid) (nat_eq new.uid old.uid) (pointwise same_scope old.scopes new.scopes)
    (obeys old new) kept taken step e in
    elim went [
      | inl h ↦ subst P h (λ id. refl)
      | inr h ↦ subst P h (λ id. with_ids-among id (lost (collection_ids old.scopes) (collection_ids new.scopes)) old.dropped_collections)
    ]

-- what a text's step drops was there
lost_there : (id : ℕ) (old new : List ℕ) → list_any (nat_eq id) (lost old new) ≡ true → list_any (nat_eq id) old ≡ true
lost_there id [] new e = absurd (cc)
lost_there id (x ∷ xs) new e = go (not (list_any (nat_eq x) new)) (nat_eq id x) refl (lost_there id xs new) e
  where
    go : (b c : Bool) → nat_eq id x ≡ c → (list_any (nat_eq id) (lost xs new) ≡ true → list_any (nat_eq id) xs ≡ true)
        → list_any (nat_eq id) (cond b (x ∷ lost xs new) (lost xs new)) ≡ true → (c || list_any (nat_eq id) xs) ≡ true
    go b true is rest e = refl
    go true false is rest e = rest (ap (λ c. c || list_any (nat_eq id) (lost xs new)) (sym is) ∙ e)
    go false false is rest e = rest e

step_there : (old new : Catalog) (step : Step) → manifest_step old new ≡ Ok step → (id : ℕ) → list_any (nat_eq id) step.dropped ≡ true
    → list_any (nat_eq id) (collection_ids old.scopes) ≡ true
step_there old new step e id is =
    let kept : Step = record { after = old; dropped = []; changed = false } in
    let taken : Step = record { after = succeeding old new; dropped = lost (collection_ids old.scopes) (collection_ids new.scopes); changed = true } in
    let went = one_of (nat_lt new.uid old.uid) (nat_eq new.uid old.uid) (pointwise same_scope old.scopes new.scopes)
    (obeys old new) kept taken step e in
    elim went [
      | inl h ↦ absurd (let none = ap (λ (s : Step). list_any (nat_eq id) s.dropped) h in cc)
      | inr h ↦ lost_there id (collection_ids old.scopes) (collection_ids new.scopes) (ap (λ (s : Step). list_any (nat_eq id) s.dropped) h ∙ is)
    ]

-- a text's step is that of its manifest
text_of_one : (old : Catalog) (text : List ℕ) (step : Step) → text_step old text ≡ Ok step → (new : Catalog) × (manifest_step old new ≡ Ok step)
text_of_one old text step e = go (manifest_in text) e
  where
    go : (m : Option Catalog) → option_map_or (λ new. manifest_step old new) m (Err status.EINVAL) ≡ Ok step
        → (new : Catalog) × (manifest_step old new ≡ Ok step)
    go (Some new) e = (new, e)
    go None e = absurd (cc)

text_drops : (old : Catalog) (text : List ℕ) (step : Step) → text_step old text ≡ Ok step
    → DropsMore old.dropped_collections step.dropped step.after.dropped_collections
text_drops old text step e = let n = text_of_one old text step e in step_drops old n.0 step n.1

-- ---- what an entry covers is there

-- a number that isn't among those that were dropped, where none of these is
none_gone : (gone : ℕ → Bool) (id : ℕ) (ids : List ℕ) → list_any (nat_eq id) ids ≡ true → list_any gone ids ≡ false → gone id ≡ false
none_gone gone id [] there none = absurd (cc)
none_gone gone id (x ∷ xs) there none = go (nat_eq id x) refl (gone x) refl there none (none_gone gone id xs)
  where
    go : (b : Bool) → nat_eq id x ≡ b → (g : Bool) → gone x ≡ g → (b || list_any (nat_eq id) xs) ≡ true → (g || list_any gone xs) ≡ false
        → (list_any (nat_eq id) xs ≡ true → list_any gone xs ≡ false → gone id ≡ false) → gone id ≡ false
    go b is true e there none more = absurd (cc)
    go true is false e there none more = ap gone (eqb-true id x is) ∙ e
    go false is false e there none more = more there none

-- a collection of a manifest that may be kept isn't one that it dropped
ids_apart : (m : Catalog) (id : ℕ) → is_kept m ≡ true → list_any (nat_eq id) (collection_ids m.scopes) ≡ true
    → list_any (nat_eq id) m.dropped_collections ≡ false
ids_apart m id kept there =
    none_gone (λ n. list_any (nat_eq n) m.dropped_collections) id (collection_ids m.scopes) there
    (turned _ (and_parts _ _ (and_parts _ _ kept).1).1)
  where
    turned : (b : Bool) → not b ≡ true → b ≡ false
    turned true e = absurd (cc)
    turned false e = refl

key_apart : (c : Content) (key : DocKey) → is_kept c.manifest ≡ true → is_free c key ≡ true
    → list_any (nat_eq key.collection) c.manifest.dropped_collections ≡ false
key_apart c key kept free =
    isnt_dropped c.manifest (item_made 0 key (whats.Remove 0)) kept (and_parts (is_none (prepare_of c.prepares key)) _ free).1

covers_apart : (c : Content) (e : Entry) (covered : Option DocKey) (dropped : List ℕ) → is_kept c.manifest ≡ true → allowed c e ≡ true
    → Covers c.manifest e covered dropped → AreApart c.manifest.dropped_collections covered dropped
covers_apart c (entries.Mutation key doc) covered dropped kept can h =
    subst (λ (o : Option DocKey). AreApart c.manifest.dropped_collections o dropped) (sym h.0) (key_apart c key kept can)
covers_apart c (entries.Deletion key cas) covered dropped kept can h =
    subst (λ (o : Option DocKey). AreApart c.manifest.dropped_collections o dropped) (sym h.0) (key_apart c key kept can)
covers_apart c (entries.Prepare key what level) covered dropped kept can h = absurd h
covers_apart c (entries.Commit of) covered dropped kept can h = absurd h
covers_apart c (entries.Abort of) covered dropped kept can h = absurd h
covers_apart c (entries.Manifest text) covered dropped kept can h =
    let n = text_of_one c.manifest text h.1 h.2 in
    subst (λ (o : Option DocKey). AreApart c.manifest.dropped_collections o dropped) (sym h.0) (λ q here.
    ids_apart c.manifest q.collection kept (step_there c.manifest n.0 h.1 n.1 q.collection (sym (h.3 q.collection) ∙ here)))

-- ---- items

none_some : {A : Type 0} (x : A) → None ≡ Some x → ⊥
none_some x e = absurd (cc)

some_same : {A : Type 0} (x y : A) → Some x ≡ Some y → x ≡ y
some_same x y e = cc

-- an item of a map into which one was put is that one or another
each_with : (m : Items) (k : DocKey) (i : Item) (q : DocKey) (item : Item) → map.get (map.insert m k i) q ≡ Some item
    → (map.get m q ≡ Some item) ⊎ (item ≡ i)
each_with m k i q item e = go (eq_by_cmp key_cmp q k) (sym (map.get-insert keys_total m k i q) ∙ e)
  where
    go : (b : Bool) → cond b (Some i) (map.get m q) ≡ Some item → (map.get m q ≡ Some item) ⊎ (item ≡ i)
    go true e = inr (sym (some_same i item e))
    go false e = inl e

each_without : (m : Items) (ids : List ℕ) (q : DocKey) (item : Item) → map.get (without m ids) q ≡ Some item → map.get m q ≡ Some item
each_without m ids q item e = go (not (list_any (nat_eq q.collection) ids))
    (sym (get_kept m (λ key. not (list_any (nat_eq key.collection) ids)) q) ∙ e)
  where
    go : (b : Bool) → cond b (map.get m q) None ≡ Some item → map.get m q ≡ Some item
    go true e = e
    go false e = absurd (none_some item e)

-- ---- what an entry does to a content

-- the item that an entry makes at a position
abbrev pub IsItemOf : ℕ → Entry → Item → Type 0
IsItemOf position (entries.Mutation key doc) item = item ≡ item_made position key (whats.Put doc)
IsItemOf position (entries.Deletion key cas) item = item ≡ item_made position key (whats.Remove cas)
IsItemOf position (entries.Prepare key what level) item = ⊥
IsItemOf position (entries.Commit of) item = ⊥
IsItemOf position (entries.Abort of) item = ⊥
IsItemOf position (entries.Manifest text) item = ⊥

-- An entry makes of a content one that is longer by one: nothing more waits, and its items were there or are the entry's.
pub record Follows (e : Entry) (c after : Content) : Type 0 where
  pub length : after.length ≡ c.length + 1
  pub prepares : after.prepares ≡ c.prepares
  pub items : (q : DocKey) (item : Item) → map.get after.items q ≡ Some item
      → (map.get c.items q ≡ Some item) ⊎ IsItemOf (c.length + 1) e item

pub follows_entry : (c : Content) (e : Entry) (covered : Option DocKey) (dropped : List ℕ) → Covers c.manifest e covered dropped
    → Follows e c (with_entry c e)
follows_entry c (entries.Mutation key doc) covered dropped h =
    record { length = refl; prepares = refl; items = each_with c.items key (item_made (c.length + 1) key (whats.Put doc)) }
follows_entry c (entries.Deletion key cas) covered dropped h =
    record { length = refl; prepares = refl; items = each_with c.items key (item_made (c.length + 1) key (whats.Remove cas)) }
follows_entry c (entries.Prepare key what level) covered dropped h = absurd h
follows_entry c (entries.Commit of) covered dropped h = absurd h
follows_entry c (entries.Abort of) covered dropped h = absurd h
follows_entry c (entries.Manifest text) covered dropped h =
    let step = h.1 in
    let P : Result Step Status → Type 0 = λ r. Follows (entries.Manifest text) c (one_longer (with_step c r)) in
    subst P (sym h.2) (record { length = refl; prepares = refl; items = λ q item e. inl (each_without c.items step.dropped q item e) })

-- ---- what lies over the items on disk

-- what was changed of late lies over items beneath, and comes to the same log but for the items
record IsOver (recent : Content) (shown under : Items) (log : Content) : Type 0 where
  lies : Lies recent.items shown under log.items
  others : recent ≡ record log { items = recent.items }

over_with : (log after : Content) (r shown under : Items) (key : DocKey) (item : Item) → Lies r shown under log.items
    → after.items ≡ map.insert log.items key item
    → IsOver (record after { items = map.insert r key item }) (map.remove shown key) under after
over_with log after r shown under key item h is = record {
  lies = subst (λ (m : Items). Lies (map.insert r key item) (map.remove shown key) under m) (sym is) (lies_with r under log.items shown key item h);
  others = refl;
}

over_entry : (log : Content) (r shown : Items) (anew : Bool) (items : Items) (e : Entry) (covered : Option DocKey) (dropped : List ℕ)
    → Lies r shown (beneath anew log.manifest items) log.items → Covers log.manifest e covered dropped
    → IsOver (with_entry (record log { items = r }) e) (without_covered shown covered dropped)
    (beneath anew (with_entry log e).manifest items) (with_entry log e)
over_entry log r shown anew items (entries.Mutation key doc) covered dropped h c =
    let after = with_entry log (entries.Mutation key doc) in
    let item = item_made (log.length + 1) key (whats.Put doc) in
    subst (λ (o : Option DocKey). IsOver (with_entry (record log { items = r }) (entries.Mutation key doc)) (without_covered shown o dropped)
    (beneath anew after.manifest items) after) (sym c.0)
    (over_with log after r shown (beneath anew log.manifest items) key item h refl)
over_entry log r shown anew items (entries.Deletion key cas) covered dropped h c =
    let after = with_entry log (entries.Deletion key cas) in
    let item = item_made (log.length + 1) key (whats.Remove cas) in
    subst (λ (o : Option DocKey). IsOver (with_entry (record log { items = r }) (entries.Deletion key cas)) (without_covered shown o dropped)
    (beneath anew after.manifest items) after) (sym c.0)
    (over_with log after r shown (beneath anew log.manifest items) key item h refl)
over_entry log r shown anew items (entries.Prepare key what level) covered dropped h c = absurd c
over_entry log r shown anew items (entries.Commit of) covered dropped h c = absurd c
over_entry log r shown anew items (entries.Abort of) covered dropped h c = absurd c
over_entry log r shown anew items (entries.Manifest text) covered dropped h c =
    let step = c.1 in
    let more = text_drops log.manifest text step c.2 in
    let P : Result Step Status → Option DocKey → Type 0 =
    λ s o. IsOver (one_longer (with_step (record log { items = r }) s)) (without_covered shown o dropped)
    (beneath anew (one_longer (with_step log s)).manifest items) (one_longer (with_step log s)) in
    subst (λ s. P s covered) (sym c.2)
    (subst (λ o. P (Ok step) o) (sym c.0)
    (record {
      lies = lies_without anew r items log.items shown log.manifest.dropped_collections step.dropped
          step.after.dropped_collections dropped more c.3 h;
      others = refl;
    }))

-- what shows of a log's items beneath, and what lies over them
pub shown_over : (recent log : Content) (n : ℕ) (under : Items) → Shows recent n under log
    → Lies recent.items (uncovered recent.items under) under log.items
shown_over recent log n under s = record { items = s.items; shown_is = refl }

-- what shows of a log once an entry is added
over_after : (recent log : Content) (n : ℕ) (anew : Bool) (items : Items) (e : Entry) (covered : Option DocKey) (dropped : List ℕ)
    → Shows recent n (beneath anew log.manifest items) log → Covers recent.manifest e covered dropped
    → IsOver (with_entry recent e) (without_covered (uncovered recent.items (beneath anew log.manifest items)) covered dropped)
    (beneath anew (with_entry log e).manifest items) (with_entry log e)
over_after recent log n anew items e covered dropped s c =
    let shown = uncovered recent.items (beneath anew log.manifest items) in
    subst (λ (x : Content). IsOver (with_entry x e) (without_covered shown covered dropped)
    (beneath anew (with_entry log e).manifest items) (with_entry log e)) (sym s.others)
    (over_entry log recent.items shown anew items e covered dropped (shown_over recent log n (beneath anew log.manifest items) s)
    (subst (λ (x : Content). Covers x.manifest e covered dropped) s.others c))

-- what of a log's items beneath an entry covers
abbrev pub CoveredOf : Content → Content → Bool → Items → Option DocKey → List ℕ → ℕ
CoveredOf recent log anew items covered dropped = covered_among (uncovered recent.items (beneath anew log.manifest items)) covered dropped

pub shows_entry : (recent log : Content) (n k : ℕ) (anew : Bool) (items : Items) (e : Entry) (covered : Option DocKey)
    (dropped : List ℕ)
    → Shows recent n (beneath anew log.manifest items) log → Covers recent.manifest e covered dropped
    → k ≡ CoveredOf recent log anew items covered dropped
    → Shows (with_entry recent e) (n - k) (beneath anew (with_entry log e).manifest items) (with_entry log e)
shows_entry recent log n k anew items e covered dropped s c is =
    let over = over_after recent log n anew items e covered dropped s c in
    let less = covered_less (uncovered recent.items (beneath anew log.manifest items)) covered dropped in
    let left = ap (λ (m : Items). items_size m) over.lies.shown_is in
    let count = s.count in
    record { items = over.lies.items; count = omega arith; others = over.others }

-- ---- sizes

-- what a log counts is what was changed of late, and what shows from beneath
size_over : (recent log : Content) (shown under : Items) → IsOver recent shown under log → size log ≡ size recent + items_size shown
size_over recent log shown under o =
    let a = sizes_together recent.items shown under log.items o.lies in
    let b = ap (λ (c : Content). waiting_size c.prepares) o.others in
    omega arith

-- what the whole log counts after an entry
pub grown_size : (recent log : Content) (n : ℕ) (anew : Bool) (items : Items) (e : Entry) (covered : Option DocKey)
    (dropped : List ℕ)
    → Shows recent n (beneath anew log.manifest items) log → Covers recent.manifest e covered dropped
    → size_after log e ≡ size_after recent e + (n - CoveredOf recent log anew items covered dropped)
grown_size recent log n anew items e covered dropped s c =
    let shown = uncovered recent.items (beneath anew log.manifest items) in
    let a = size_over (with_entry recent e) (with_entry log e) (without_covered shown covered dropped)
    (beneath anew (with_entry log e).manifest items) (over_after recent log n anew items e covered dropped s c) in
    let b = covered_less shown covered dropped in
    let count = s.count in
    omega arith

-- ---- what holds of a vbucket on whatever disk

-- a document that an entry may have, with its number
numbered_doc : (n : ℕ) (doc : Doc) → IsAllowedDoc doc → IsAllowedWhat (numbered n (whats.Put doc))
numbered_doc n doc h = record {
  cas = h.cas;
  flags = h.flags;
  expiry = h.expiry;
  attributes = h.attributes;
  attributes_short = h.attributes_short;
  value_short = h.value_short;
}

-- the item of an allowed entry can be kept
item_stored : (position : ℕ) (e : Entry) (item : Item) → 1 ≤ position → position ≤ GREATEST_POSITION → IsAllowed e
    → IsItemOf position e item → IsStorable item
item_stored n (entries.Mutation key doc) item low high a is =
    subst IsStorable (sym is) (record { key = a.0; later = low; within = high; what = numbered_doc n doc a.1; numbered = refl })
item_stored n (entries.Deletion key cas) item low high a is = subst IsStorable (sym is)
    (record { key = a.0; later = low; within = high; what = a.1; numbered = tt })
item_stored n (entries.Prepare key what level) item low high a is = absurd is
item_stored n (entries.Commit of) item low high a is = absurd is
item_stored n (entries.Abort of) item low high a is = absurd is
item_stored n (entries.Manifest text) item low high a is = absurd is

stored_entry : (c after : Content) (e : Entry) → Follows e c after → IsAllowed e → c.length < GREATEST_POSITION → AreStorable c.items
    → AreStorable after.items
stored_entry c after e f a short all q item found =
    elim (f.items q item found) [ inl old ↦ all q item old | inr new ↦ item_stored (c.length + 1) e item (omega arith) (omega arith) a new ]

pub fit_entry : (meta : Meta) (core : CopyCore) (recent : Content) (seen : ℕ) (e : Entry) (covered : Option DocKey) (dropped : List ℕ)
    → IsFit meta core recent seen → IsAllowed e → Covers recent.manifest e covered dropped → recent.length < GREATEST_POSITION
    → IsFit meta (record core { length = (with_entry recent e).length }) (with_entry recent e) seen
fit_entry meta core recent seen e covered dropped fit a c short =
    let f = follows_entry recent e covered dropped c in
    record {
      chain = fit.chain;
      place = fit.place;
      promised = fit.promised;
      term = fit.term;
      length = refl;
      items = stored_entry recent (with_entry recent e) e f a short fit.items;
      waiting = subst IsAllowedPending (sym f.prepares) fit.waiting;
      moment = fit.moment;
    }

-- the same of parts that came to be one after another
pub fit_grown : (meta : Meta) (core : CopyCore) (recent after : Content) (seen length : ℕ) (e : Entry)
    (covered : Option DocKey) (dropped : List ℕ)
    → IsFit meta core recent seen → IsAllowed e → Covers recent.manifest e covered dropped → recent.length < GREATEST_POSITION
    → length ≡ after.length → after ≡ with_entry recent e → IsFit meta (record core { length = length }) after seen
fit_grown meta core recent after seen length e covered dropped fit a c short long is =
    let P : Content → ℕ → Type 0 = λ x n. IsFit meta (record core { length = n }) x seen in
    subst (λ n. P after n) (sym long)
    (subst (λ x. P x x.length) (sym is) (fit_entry meta core recent seen e covered dropped fit a c short))

-- ---- what holds of a vbucket that is a copy

seqno_of : (n : ℕ) (e : Entry) (item : Item) → IsItemOf n e item → item.seqno ≡ n
seqno_of n (entries.Mutation key doc) item is = ap (λ (i : Item). i.seqno) is
seqno_of n (entries.Deletion key cas) item is = ap (λ (i : Item). i.seqno) is
seqno_of n (entries.Prepare key what level) item is = absurd is
seqno_of n (entries.Commit of) item is = absurd is
seqno_of n (entries.Abort of) item is = absurd is
seqno_of n (entries.Manifest text) item is = absurd is

made_entry : (c after : Content) (e : Entry) → Follows e c after → MadeUpTo c.length c.items → MadeUpTo after.length after.items
made_entry c after e f all q item found =
    elim (f.items q item found) [
      | inl old ↦ let h = all q item old in let l = f.length in omega arith
      | inr new ↦ let h = seqno_of (c.length + 1) e item new in let l = f.length in omega arith
    ]

behind_entry : (c after : Content) (e : Entry) (position : ℕ) → Follows e c after → position ≤ c.length
    → MadeBehind position c.items → MadeBehind position after.items
behind_entry c after e position f within all q item found =
    elim (f.items q item found) [ inl old ↦ all q item old | inr new ↦ let h = seqno_of (c.length + 1) e item new in omega arith ]

module _ {D : Type 0} (states : D → List Device) where
  -- the spots of an open store tell what its items count
  tell_sizes : (vb : ShownVb D) (copy : Copy Content ℕ) (s : Stands states vb copy) → TellSizes vb.store.spots s.held.items
  tell_sizes vb copy s q = opened_at vb.store.spots s.held.items vb.store.layout (states vb.store.disk) q s.is_open.spots

  -- what spots tell of what an entry covers is what is covered of the log's items beneath
  pub covered_is : (vb : ShownVb D) (copy : Copy Content ℕ) (e : Entry) (covered : Option DocKey) (dropped : List ℕ)
      (s : Stands states vb copy) → Covers vb.recent.manifest e covered dropped → allowed vb.recent e ≡ true
      → covered_size vb covered dropped ≡ CoveredOf vb.recent copy.log vb.is_anew s.held.items covered dropped
  covered_is vb copy e covered dropped s c can =
      let same : vb.recent.manifest ≡ copy.log.manifest = ap (λ (x : Content). x.manifest) s.shows.others in
      covered_told vb.is_anew vb.recent.items s.held.items copy.log.manifest.dropped_collections vb.store.spots covered dropped
      (tell_sizes vb copy s)
      (subst (λ (m : Catalog). AreApart m.dropped_collections covered dropped) same
      (covers_apart vb.recent e covered dropped (ap is_kept same ∙ s.whole.parts.kept) can c))

  pub stands_entry : (vb : ShownVb D) (copy : Copy Content ℕ) (e : Entry) (covered : Option DocKey) (dropped : List ℕ)
      → Covers vb.recent.manifest e covered dropped → allowed vb.recent e ≡ true → IsWhole (with_entry copy.log e)
      → Stands states vb copy → Stands states (grown e covered dropped vb) (added folds e copy)
  stands_entry vb copy e covered dropped c can whole s =
      let others = s.shows.others in
      let log = copy.log in
      let shows = shows_entry vb.recent log vb.showing (covered_size vb covered dropped) vb.is_anew s.held.items e covered dropped s.shows c
      (covered_is vb copy e covered dropped s c can) in
      let on_log = follows_entry log e covered dropped (subst (λ (x : Content). Covers x.manifest e covered dropped) others c) in
      let on_recent = follows_entry vb.recent e covered dropped c in
      let same : (with_entry vb.recent e).length ≡ (with_entry log e).length = ap (λ (x : Content). x.length) shows.others in
      let recent_length : vb.recent.length ≡ log.length = ap (λ (x : Content). x.length) others in
      record {
        active = s.active;
        numbers = record {
          core = ap (λ (x : CopyCore). record x { length = (with_entry vb.recent e).length }) s.numbers.core
              ∙ ap (λ n. record (core_of folds copy) { length = n }) same;
          number = s.numbers.number;
          seen = s.numbers.seen;
        };
        held = s.held;
        is_open = s.is_open;
        pair = s.pair;
        torn = s.torn;
        whole = whole;
        told = s.told;
        shows = shows;
        made = made_entry log (with_entry log e) e on_log s.made;
        on_disk = s.on_disk;
        longer = λ here. let a = s.longer here in let b = on_log.length in omega arith;
        recently = λ here. behind_entry vb.recent (with_entry vb.recent e) e s.held.meta.length on_recent
            (let a = s.longer here in omega arith) (s.recently here);
        anew = s.anew;
        inherited = s.inherited;
        entries = ap (λ n. n + 1) s.entries;
        bytes = ap (λ n. n + entry_length e) s.bytes;
      }

  pub lives_entry : (vb : ShownVb D) (copy : Copy Content ℕ) (e : Entry) (covered : Option DocKey) (dropped : List ℕ)
      → Covers vb.recent.manifest e covered dropped → allowed vb.recent e ≡ true → IsWhole (with_entry copy.log e)
      → Lives states vb copy → Lives states (grown e covered dropped vb) (added folds e copy)
  lives_entry vb copy e covered dropped c can whole l =
      let covers = subst (λ (x : Content). Covers x.manifest e covered dropped) l.stands.shows.others c in
      record {
        stands = stands_entry vb copy e covered dropped c can whole l.stands;
        none_waits = (follows_entry copy.log e covered dropped covers).prepares ∙ l.none_waits;
        tickets = l.tickets;
        deadlines = l.deadlines;
      }
