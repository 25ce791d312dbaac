-- What a write, and the setting of numbers, make of a store.
use Rattle.std.specs.Prelude.{◌≡◌, ◌⊎◌, ℕ, ◌+◌, nat_eq, is_some, Bool, true, false, cond, ◌||◌, not, find, sum, map as list_map, List, [], ◌∷◌, ◌++◌, length, drop, Some, Result, Ok, Err, OnOk, IsTrue, refl}
use Rattle.std.specs.List.{flat_map, AllByRecursion, list_any}
use Rattle.std.specs.Int.{w32, to_be_bytes}
use Rattle.std.specs.FinMap as map
use Rattle.std.proofs.Common.{inl, inr, sym, ◌∙◌, ap, subst, arith, length-append}
use Rattle.std.proofs.lemmas.Bool.{and_parts, eqb-true}
use Rattle.std.proofs.lemmas.List.{drop_at}
use Rattle.std.proofs.lemmas.List.Concat.{length-flat_map}
use Rattle.std.proofs.lemmas.List.Sums.{sum-map}
use Rattle.doc_model.specs.declared.document.Item.{Item}
use Rattle.doc_model.specs.Keys.{key_cmp, is_in}
use Rattle.manifest_rules.specs.declared.types.Collection.{Collection}
use Rattle.manifest_rules.specs.Catalog.{Catalog, collections_in, collection_ids}
use Rattle.manifest_rules.specs.State.{is_kept, state_of, IsAt}
use Rattle.manifest_rules.proofs.States.{same_state}
use Rattle.magma_disk.specs.Device.{Device}
use Rattle.magma_disk.specs.Moments.{Throughout}
use Rattle.magma_disk.proofs.Moments.{weaker}
use Rattle.vb_log.specs.Content.{has_collection}
use Rattle.vb_log.specs.Contents.{item_bytes, items_bytes}
use Rattle.vb_log.specs.Spelling.{sized}
use Rattle.magma_store.specs.declared.meta.Meta.{Meta}
use Rattle.magma_store.specs.declared.meta.Numbers.{Numbers}
use Rattle.magma_store.specs.declared.spot.Spot.{Spot}
use Rattle.magma_store.specs.declared.spot.Placed.{Placed}
use Rattle.magma_store.specs.Changes.{Change, Sets, Writes, AreWords, IsChange, change_bytes}
use Rattle.magma_store.specs.Held.{Held, numbers_of, with_numbers, with_items, items_left, AreDropped}
use Rattle.magma_store.specs.Journal.{IsJournal, IsAtRest, journal_bytes, record_bytes, piece_bytes}
use Rattle.magma_store.specs.Layout.{write_size, sets_size, LaysWrite, LaysNumbers}
use Rattle.magma_store.specs.Loading.{LeadIn}
use Rattle.magma_store.specs.Reading.{items_behind}
use Rattle.magma_store.specs.Spots.{AllLead, placed, with_spots}
use Rattle.magma_store.specs.Store.{Shown, IsOpen, Either, IsBatch, written, promised}
use Rattle.magma_store.specs.Taking.{spots_left}
use Rattle.magma_store.specs.Writing.{NoneIn}
use Rattle.magma_store.proofs.Leading.{lead_more, lead_write}
use Rattle.magma_store.proofs.Growing.{journal_more}
use Rattle.magma_store.proofs.Takings.{all_placed, all_left}
use Rattle.magma_store.proofs.Storings.{IsBase, IsBased, piece_len, open_of, base_more, either_left}

-- ---- the collections that a batch's manifest drops

batch_at : (manifest : Catalog) (batch : List Item) (meta : Meta) → IsBatch manifest batch meta → IsAt meta.tail manifest (length (state_of manifest))
batch_at manifest batch meta b = record {
  kept = b.kept;
  front = b.tail ∙ ap (λ l. state_of manifest ++ l) (sym (ap (drop (length (state_of manifest))) b.tail ∙ drop_at (state_of manifest) b.rest (length (state_of manifest)) refl));
  len = refl;
}

pub batch_drops : (manifest : Catalog) (batch : List Item) (meta : Meta) → IsBatch manifest batch meta → AreDropped meta.tail manifest.dropped_collections
batch_drops manifest batch meta b = inl (record { manifest = manifest; size = length (state_of manifest); at = batch_at manifest batch meta b; is = refl })

-- a tail names no others
pub drops_are : (manifest : Catalog) (batch : List Item) (meta : Meta) (dropped : List ℕ) → IsBatch manifest batch meta → AreDropped meta.tail dropped → dropped ≡ manifest.dropped_collections
drops_are manifest batch meta dropped b (inl d) =
    d.is ∙ ap (λ (m : Catalog). m.dropped_collections) (same_state d.manifest manifest (drop d.size meta.tail) b.rest d.at.kept b.kept (sym d.at.front ∙ b.tail))
drops_are manifest batch meta dropped b (inr none) = absurd (none.1 manifest (length (state_of manifest)) (batch_at manifest batch meta b))

-- a collection that is there isn't among those that were dropped
none_gone : (gone : ℕ → Bool) (id : ℕ) (cs : List Collection) → is_some (find (λ (c : Collection). nat_eq c.id id) cs) ≡ true → list_any gone (list_map (λ (c : Collection). c.id) cs) ≡ false → gone id ≡ false
none_gone gone id [] there none = absurd (cc)
none_gone gone id (c ∷ cs) there none = go (nat_eq c.id id) refl there (gone c.id) refl none (λ has rest. none_gone gone id cs has rest)
  where
    go : (b : Bool) → nat_eq c.id id ≡ b → is_some (cond b (Some c) (find (λ (c : Collection). nat_eq c.id id) cs)) ≡ true → (g : Bool) → gone c.id ≡ g → (g || list_any gone (list_map (λ (c : Collection). c.id) cs)) ≡ false
        → (is_some (find (λ (c : Collection). nat_eq c.id id) cs) ≡ true → list_any gone (list_map (λ (c : Collection). c.id) cs) ≡ false → gone id ≡ false) → gone id ≡ false
    go b is has true e none more = absurd (cc)
    go true is has false e none more = ap gone (sym (eqb-true c.id id is)) ∙ e
    go false is has false e none more = more has none

kept_apart : (manifest : Catalog) → is_kept manifest ≡ true → list_any (λ id. list_any (nat_eq id) manifest.dropped_collections) (collection_ids manifest.scopes) ≡ false
kept_apart m kept = turned _ (and_parts _ _ (and_parts _ _ kept).1).1
  where
    turned : (b : Bool) → not b ≡ true → b ≡ false
    turned true e = absurd (cc)
    turned false e = refl

pub none_dropped : (manifest : Catalog) (dropped : List ℕ) (at : ℕ) (batch : List Item) → is_kept manifest ≡ true → dropped ≡ manifest.dropped_collections
    → AllByRecursion (λ (i : Item). IsTrue (has_collection manifest i.key.collection)) batch → NoneIn dropped (placed at batch)
none_dropped manifest dropped at [] kept is present = tt
none_dropped manifest dropped at (i ∷ batch) kept is present = (
  ap (λ l. is_in l i.key) is ∙ none_gone (λ id. list_any (nat_eq id) manifest.dropped_collections) i.key.collection (collections_in manifest.scopes) present.0 (kept_apart manifest kept),
  none_dropped manifest dropped (at + length (item_bytes i)) batch kept is present.1,
)

-- ---- its record

abbrev pub Written : Bool → List Item → Meta → Change
Written is_anew batch meta = Writes is_anew (numbers_of meta) meta.tail batch

pub write_len : (is_anew : Bool) (numbers : Numbers) (tail : List ℕ) (batch : List Item) → 9 + length (change_bytes (Writes is_anew numbers tail batch)) ≡ write_size tail batch
write_len is_anew numbers tail batch =
    let a = length-append (sized tail) (items_bytes batch) in
    let b = length-append (to_be_bytes w32 (length tail)) tail in
    let c = length-append (to_be_bytes w32 (length batch)) (flat_map item_bytes batch) in
    let d : length (flat_map item_bytes batch) ≡ sum (list_map (λ (i : Item). length (item_bytes i)) batch) = length-flat_map item_bytes batch ∙ sym (sum-map (λ (i : Item). length (item_bytes i)) batch) in
    omega arith

pub write_allowed : (is_anew : Bool) (manifest : Catalog) (batch : List Item) (meta : Meta) → IsBatch manifest batch meta → AreWords (numbers_of meta) → IsChange (Written is_anew batch meta)
write_allowed is_anew manifest batch meta b words = (b.numbers, words, b.short, b.few, b.storable)

own_is : (meta was : Meta) → meta.chain ≡ was.chain → meta.place ≡ was.place → meta ≡ with_numbers (numbers_of meta) meta.tail was
own_is meta was c p i = record {
  chain = c i;
  place = p i;
  promise = meta.promise;
  accepted = meta.accepted;
  incarnation = meta.incarnation;
  length = meta.length;
  cas = meta.cas;
  tail = meta.tail;
}

-- what a write is given, of a store that is open
pub record IsWrite (is_anew : Bool) (manifest : Catalog) (batch : List Item) (meta : Meta) (held : Held) : Type 0 where
  pub batched : IsBatch manifest batch meta
  pub words : AreWords (numbers_of meta)
  pub chain_own : meta.chain ≡ held.meta.chain
  pub place_own : meta.place ≡ held.meta.place

module _ (is_anew : Bool) (manifest : Catalog) (batch : List Item) (meta : Meta) (held : Held) (spots : map.FinMap key_cmp Spot) (layout : ℕ) (h : List Device) (w : IsWrite is_anew manifest batch meta held) (b : IsBased held spots layout h) where
  abbrev Bytes : List ℕ
  Bytes = change_bytes (Written is_anew batch meta)

  abbrev New : Held
  New = written is_anew manifest batch meta held

  write_base : (after : ℕ) → after ≡ layout + write_size meta.tail batch → IsBase (b.records ++ Bytes ∷ []) New after
  write_base after is =
      let same : New ≡ record { items = with_items (items_left is_anew manifest.dropped_collections held.items) batch; meta = with_numbers (numbers_of meta) meta.tail held.meta } =
      ap (λ (m : Meta). record { items = with_items (items_left is_anew manifest.dropped_collections held.items) batch; meta = m }) (own_is meta held.meta w.chain_own w.place_own) in
      let len = write_len is_anew (numbers_of meta) meta.tail batch in
      base_more b.records held layout after (Written is_anew batch meta) New b.base (write_allowed is_anew manifest batch meta w.batched w.words)
      (manifest.dropped_collections, batch_drops manifest batch meta w.batched, same) (omega arith)

  pub write_moments : (now : List Device) → Throughout (λ image. IsJournal b.records image ⊎ IsJournal (b.records ++ Bytes ∷ []) image) h now
      → (after : ℕ) × LaysWrite layout is_anew batch meta after × Throughout (Either held layout New after) h now
  write_moments now run =
      let after : ℕ = layout + write_size meta.tail batch in (
        after,
        refl,
        weaker (λ image. IsJournal b.records image ⊎ IsJournal (b.records ++ Bytes ∷ []) image) (Either held layout New after) h now
            (λ image left. either_left b.records Bytes held layout New after image b.base (write_base after refl) left) run,
      )

  pub write_open : {D : Type 0} (states : D → List Device) (store : Shown D) (dropped : List ℕ) → IsAtRest (b.records ++ Bytes ∷ []) (states store.disk) → AreDropped meta.tail dropped
      → store.meta ≡ meta → store.layout ≡ layout + write_size meta.tail batch → store.spots ≡ with_spots (spots_left is_anew dropped spots) (placed (layout + 9 + items_behind meta.tail) batch)
      → IsOpen states New store
  write_open states store dropped rests drops meta_is grown spots_are =
      let ids = drops_are manifest batch meta dropped w.batched drops in
      let journal = journal_bytes b.records in
      let all = journal ++ record_bytes Bytes in
      let lead : LeadIn (with_spots (spots_left is_anew manifest.dropped_collections spots) (placed (length journal + 9 + items_behind meta.tail) batch)) New.items all =
      lead_write journal is_anew (numbers_of meta) meta.tail batch manifest.dropped_collections spots held.items w.batched.storable b.lead in
      let same : store.spots ≡ with_spots (spots_left is_anew manifest.dropped_collections spots) (placed (length journal + 9 + items_behind meta.tail) batch) =
      spots_are ∙ ap (λ d. with_spots (spots_left is_anew d spots) (placed (layout + 9 + items_behind meta.tail) batch)) ids
      ∙ ap (λ n. with_spots (spots_left is_anew manifest.dropped_collections spots) (placed (n + 9 + items_behind meta.tail) batch)) b.base.size in
      open_of states (b.records ++ Bytes ∷ []) New store (write_base store.layout grown) rests meta_is
      (subst (LeadIn store.spots New.items) (sym (journal_more b.records Bytes)) (subst (λ s. LeadIn s New.items all) (sym same) lead))

-- no key has room alone afterwards
pub write_leads : (is_anew : Bool) (manifest : Catalog) (batch : List Item) (meta : Meta) (at : ℕ) (dropped : List ℕ) (spots now : map.FinMap key_cmp Spot) → IsBatch manifest batch meta → AllLead spots
    → now ≡ with_spots (spots_left is_anew dropped spots) (placed at batch) → AllLead now
write_leads is_anew manifest batch meta at dropped spots now b lead is =
    subst AllLead (sym is) (all_placed batch at (spots_left is_anew dropped spots) b.storable (all_left is_anew dropped spots lead))

-- ---- the setting of numbers

-- a promise
abbrev pub promised_meta : ℕ → Meta → Meta
promised_meta term meta = record meta { promise = term }

module _ (term : ℕ) (meta : Meta) (held : Held) (spots : map.FinMap key_cmp Spot) (layout : ℕ) (h : List Device) (is : meta ≡ held.meta) (allowed : IsChange (Sets (numbers_of (promised_meta term meta)))) (b : IsBased held spots layout h) where
  abbrev Told : List ℕ
  Told = change_bytes (Sets (numbers_of (promised_meta term meta)))

  promise_base : (after : ℕ) → after ≡ layout + sets_size → IsBase (b.records ++ Told ∷ []) (promised term held) after
  promise_base after grown =
      let becomes : promised term held ≡ record held { meta = with_numbers (numbers_of (promised_meta term meta)) held.meta.tail held.meta } =
      ap (λ (m : Meta). record held { meta = with_numbers (numbers_of (promised_meta term m)) held.meta.tail held.meta }) (sym is) in
      base_more b.records held layout after (Sets (numbers_of (promised_meta term meta))) (promised term held) b.base allowed becomes (omega arith)

  pub promise_moments : (now : List Device) → Throughout (λ image. IsJournal b.records image ⊎ IsJournal (b.records ++ Told ∷ []) image) h now
      → (after : ℕ) × LaysNumbers layout after × Throughout (Either held layout (promised term held) after) h now
  promise_moments now run =
      let after : ℕ = layout + sets_size in (
        after,
        refl,
        weaker (λ image. IsJournal b.records image ⊎ IsJournal (b.records ++ Told ∷ []) image) (Either held layout (promised term held) after) h now
            (λ image left. either_left b.records Told held layout (promised term held) after image b.base (promise_base after refl) left) run,
      )

  pub promise_open : {D : Type 0} (states : D → List Device) (store : Shown D) → IsAtRest (b.records ++ Told ∷ []) (states store.disk) → store.meta ≡ promised_meta term meta → store.layout ≡ layout + sets_size → store.spots ≡ spots
      → IsOpen states (promised term held) store
  promise_open states store rests meta_is grown same =
      let all = journal_bytes b.records ++ record_bytes Told in
      open_of states (b.records ++ Told ∷ []) (promised term held) store (promise_base store.layout grown) rests (meta_is ∙ ap (promised_meta term) is)
      (subst (LeadIn store.spots held.items) (sym (journal_more b.records Told))
      (subst (λ s. LeadIn s held.items all) (sym same) (lead_more (journal_bytes b.records) (record_bytes Told) (length all) spots held.items (omega (arith, length-append (journal_bytes b.records) (record_bytes Told))) b.lead)))

-- ---- what a write answers

pub spelled_len : (is_anew : Bool) (numbers : Numbers) (tail : List ℕ) (batch : List Item) (bytes : List ℕ) → bytes ≡ piece_bytes (change_bytes (Writes is_anew numbers tail batch)) → length bytes ≡ write_size tail batch
spelled_len is_anew numbers tail batch bytes is = ap length is ∙ piece_len (change_bytes (Writes is_anew numbers tail batch)) ∙ write_len is_anew numbers tail batch

pub on_ok : {T E : Type 0} (r : Result T E) (P : Type 0) → P → OnOk r P
on_ok (Ok x) P p = p
on_ok (Err y) P p = tt

-- a key of a batch isn't in a dropped collection
pub none_in : (batch : List Item) (meta : Meta) (tail dropped : List ℕ) (places : List Placed) (at : ℕ) → (manifest : Catalog) × IsBatch manifest batch meta → tail ≡ meta.tail → AreDropped tail dropped → places ≡ placed at batch → NoneIn dropped places
none_in batch meta tail dropped places at b same drops is =
    subst (NoneIn dropped) (sym is)
    (none_dropped b.0 dropped at batch b.1.kept (drops_are b.0 batch meta dropped b.1 (subst (λ l. AreDropped l dropped) same drops)) b.1.present)

pub leads_in : (is_anew : Bool) (batch : List Item) (meta : Meta) (at : ℕ) (dropped : List ℕ) (places : List Placed) (spots now : map.FinMap key_cmp Spot) → (manifest : Catalog) × IsBatch manifest batch meta → AllLead spots → places ≡ placed at batch
    → now ≡ with_spots (spots_left is_anew dropped spots) places → AllLead now
leads_in is_anew batch meta at dropped places spots now b lead same is =
    write_leads is_anew b.0 batch meta at dropped spots now b.1 lead (is ∙ ap (with_spots (spots_left is_anew dropped spots)) same)
