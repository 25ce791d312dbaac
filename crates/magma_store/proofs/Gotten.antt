-- What is read of an item whose bytes stand on a device.
use Rattle.std.specs.Prelude.{◌≡◌, ℕ, zero, suc, slice_index_or, ◌+◌, ◌≤◌, ◌<◌, ◌^◌, nat_eq, Bool, true, false, cond, List, [], ◌∷◌, ◌++◌, length, take, drop, Option, Some, None, refl}
use Rattle.std.specs.FinMap as map
use Rattle.std.specs.Int.{w64, to_be_bytes}
use Rattle.std.proofs.Common.{sym, ◌∙◌, ap, subst, append-nil, length-append, arith}
use Rattle.doc_model.specs.declared.key.DocKey.{DocKey}
use Rattle.doc_model.specs.declared.document.Item.{Item}
use Rattle.doc_model.specs.declared.document.What.{What}
use Rattle.doc_model.specs.declared.document.What.TheVariants as whats
use Rattle.leb_collections.proofs.Laws.{id_bytes_short}
use Rattle.magma_disk.specs.Device.{Device}
use Rattle.vb_log.specs.Contents.{item_bytes}
use Rattle.vb_log.specs.Keys.{IsAllowedKey, name_limit, key_bytes}
use Rattle.vb_log.specs.Spelling.{IsAllowedWhat, what_bytes}
use Rattle.vb_log.specs.Sizes.{key_length, what_length}
use Rattle.vb_log.specs.declared.entry.Entry.TheVariants as entries
use Rattle.vb_log.specs.Stored.{IsStorable}
use Rattle.vb_log.proofs.Entries.{entry_size}
use Rattle.magma_store.specs.declared.spot.Spot.{Spot}
use Rattle.doc_model.specs.Keys.{key_cmp}
use Rattle.magma_store.specs.Store.{Leads, LeadTo}
use Rattle.magma_store.specs.Gotten.{Stands, AllStand}
use Rattle.std.specs.List.{AllByRecursion}

-- the bytes that are read at a spot are the item's
pub record IsRead (bytes : List ℕ) (item : Item) : Type 0 where
  pub allowed : IsStorable item
  pub whole : bytes ≡ item_bytes item ++ []

pub read_there : (h : List Device) (spot : Spot) (item : Item) (bytes : List ℕ) → Stands spot item h
    → ((d : Device) (past : List Device) → h ≡ d ∷ past → bytes ≡ take spot.length (drop spot.at d.bytes)) → IsRead bytes item
read_there [] spot item bytes s f = absurd s
read_there (d ∷ past) spot item bytes s f = record { allowed = s.0; whole = f d past refl ∙ s.1.read ∙ sym (append-nil (item_bytes item)) }

-- ---- how many bytes an item has at most

few_in_name : (collection : ℕ) → name_limit collection ≤ 250
few_in_name collection = go (nat_eq collection 0)
  where
    go : (b : Bool) → cond b 250 246 ≤ 250
    go true = omega arith
    go false = omega arith

few_in_key : (key : DocKey) → IsAllowedKey key → key_length key ≤ 256
few_in_key key h = let name = h.short in omega (arith, name, few_in_name key.collection, id_bytes_short key.collection)

few_in_what : (what : What) → IsAllowedWhat what → what_length what ≤ 22020126
few_in_what (whats.Put doc) h = let section = h.attributes_short in let value = h.value_short in omega (arith, section, value)
few_in_what (whats.Remove cas) h = omega arith

pub item_short : (item : Item) → IsStorable item → length (item_bytes item) ≤ 22020390
item_short item h =
    let key = few_in_key item.key h.key in
    let what = few_in_what item.what h.what in
    omega (
      arith,
      key,
      what,
      entry_size (entries.Prepare item.key item.what 0),
      length-append (key_bytes item.key) (what_bytes item.what),
      length-append (key_bytes item.key) (to_be_bytes w64 item.seqno ++ what_bytes item.what),
    )

-- so few pieces are read of it
pub few_pieces : (h : List Device) (spot : Spot) (item : Item) → Stands spot item h → spot.length ≤ 22020390
few_pieces [] spot item s = absurd s
few_pieces (d ∷ past) spot item s = let length_is = s.1.len in let short = item_short item s.0 in omega (arith, length_is, short)

-- ---- spots of an open store

-- a spot of a key leads to an item
pub leads_to : (h : List Device) (spots : map.FinMap key_cmp Spot) (items : map.FinMap key_cmp Item) (end : ℕ) (key : DocKey) (spot : Spot)
    → LeadTo spots items end h → end ≤ 2 ^ 62 → map.get spots key ≡ Some spot → (item : Item) × Stands spot item h
leads_to [] spots items end key spot l small is = absurd l
leads_to (d ∷ past) spots items end key spot l small is =
    go (map.get items key) (subst (λ o. Leads d.bytes end key o (map.get items key)) is (l key))
  where
    go : (o : Option Item) → Leads d.bytes end key (Some spot) o → (item : Item) × Stands spot item (d ∷ past)
    go None e = absurd e
    go (Some item) e =
        let within = e.2.before in
        (item, (e.1, record { seqno = e.2.seqno; len = e.2.len; weight = e.2.weight; cas = e.2.cas; read = e.2.read; before = omega (arith, within, small) }))

-- ---- items one after another

-- the item that stands at the next spot
pub record Next (ss : List Spot) (is : List Item) (h : List Device) (k : ℕ) (d : Spot) : Type 0 where
  pub item : Item
  pub stands : Stands (slice_index_or ss k d) item h
  pub more : take (k + 1) is ≡ take k is ++ item ∷ []

pub stand_next : (ss : List Spot) (is : List Item) (h : List Device) → AllStand ss is h → (k : ℕ) → k < length ss → (d : Spot) → Next ss is h k d
stand_next [] [] h a k low d = absurd (omega arith)
stand_next [] (i ∷ is) h a k low d = absurd a
stand_next (s ∷ ss) [] h a k low d = absurd a
stand_next (s ∷ ss) (i ∷ is) h a zero low d = record { item = i; stands = a.0; more = refl }
stand_next (s ∷ ss) (i ∷ is) h a (suc k) low d =
    let n = stand_next ss is h a.1 k (omega arith) d in
    record { item = n.item; stands = n.stands; more = ap (λ n. take n (i ∷ is)) (next k) ∙ ap (λ l. i ∷ l) n.more }
  where
    next : (k : ℕ) → suc k + 1 ≡ suc (k + 1)
    next k = omega arith

pub stand_all : (ss : List Spot) (is : List Item) (h : List Device) → AllStand ss is h → (k : ℕ) → length ss ≤ k → take k is ≡ is
stand_all [] [] h a zero high = refl
stand_all [] [] h a (suc k) high = refl
stand_all [] (i ∷ is) h a k high = absurd a
stand_all (s ∷ ss) [] h a k high = absurd a
stand_all (s ∷ ss) (i ∷ is) h a zero high = absurd (omega arith)
stand_all (s ∷ ss) (i ∷ is) h a (suc k) high = ap (λ l. i ∷ l) (stand_all ss is h a.1 k (omega arith))

pub storable_more : (items : List Item) (item : Item) → AllByRecursion IsStorable items → IsStorable item → AllByRecursion IsStorable (items ++ item ∷ [])
storable_more [] item h i = (i, tt)
storable_more (x ∷ items) item h i = (h.0, storable_more items item h.1 i)

pub some_same : {A : Type 0} (a b : A) → Some a ≡ Some b → a ≡ b
some_same a b e = cc

pub none_some : {A : Type 0} (a : A) → None ≡ Some a → ⊥
none_some a e = absurd (cc)
