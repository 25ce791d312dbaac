-- The bytes of a content.
use Rattle.std.specs.Prelude.{◌≡◌, ℕ, zero, suc, ◌-◌, ◌≤◌, ◌<◌, ◌^◌, nat_eq, Bool, true, ◌&&◌, map as list_map, List, [], ◌∷◌, ◌++◌, length, slice_get, option_map, IsTrue, Option, Some, None}
use Rattle.std.specs.List.{flat_map, IsDistinct}
use Rattle.std.specs.Int.{w32, w64, to_be_bytes}
use Rattle.std.specs.Ordering.{is_lt, eq_by_cmp}
use Rattle.std.specs.FinMap as map
use Rattle.doc_model.specs.declared.key.DocKey.{DocKey}
use Rattle.doc_model.specs.declared.document.Item.{Item}
use Rattle.doc_model.specs.declared.document.What.{What}
use Rattle.doc_model.specs.declared.document.What.TheVariants as whats
use Rattle.doc_model.specs.Keys.{key_cmp}
use Rattle.manifest_rules.specs.Catalog.{Catalog}
use Rattle.manifest_rules.specs.State.{is_kept, state_of}
use Rattle.vb_log.specs.declared.bounds.Bounds.{Bounds}
use Rattle.vb_log.specs.declared.spelt_content.Body.{Body}
use Rattle.vb_log.specs.declared.entry.Pending.{Pending}
use Rattle.vb_log.specs.declared.limits.TheConstants.{GREATEST_CAS, GREATEST_POSITION, SPELT_KEY_LIMIT}
use Rattle.vb_log.specs.Content.{Content, cas_of, has_collection}
use Rattle.vb_log.specs.Held.{StandAtKeys}
use Rattle.vb_log.specs.Keys.{IsAllowedKey, key_bytes}
use Rattle.vb_log.specs.Layout.{Layout, end, byte, number, key_field, state_field, four, eight}
use Rattle.vb_log.specs.Prepares.{IsPendingWithin, pending_bytes, pending_layout}
use Rattle.vb_log.specs.Sizes.{is_within}
use Rattle.vb_log.specs.Spelling.{IsAllowedWhat, what_bytes, what_layout}

-- ---- what is allowed

-- a document has this sequence number
abbrev pub IsNumbered : ℕ → What → Type 0
IsNumbered seqno (whats.Put doc) = doc.seqno ≡ seqno
IsNumbered seqno (whats.Remove cas) = Unit {0}

-- an item within bounds, of a collection that is there
pub record IsAllowedItem (manifest : Catalog) (bounds : Bounds) (item : Item) : Type 0 where
  pub key : IsAllowedKey item.key
  pub present : IsTrue (has_collection manifest item.key.collection)
  pub later : 1 ≤ item.seqno
  pub within : item.seqno ≤ bounds.last
  pub what : IsAllowedWhat item.what
  pub cas : cas_of item.what ≤ bounds.cas
  pub numbered : IsNumbered item.seqno item.what

-- what no part of a content passes
abbrev pub bounds_of : Content → Bounds
bounds_of c = record { last = c.length; cas = c.greatest_cas }

-- a content whose parts keep their limits
pub record HasBytes (c : Content) : Type 0 where
  pub short : c.length ≤ GREATEST_POSITION
  pub cas : c.greatest_cas ≤ GREATEST_CAS
  pub kept : IsTrue (is_kept c.manifest)
  pub own : StandAtKeys c.items
  pub items : (key : DocKey) (item : Item) → map.get c.items key ≡ Some item → IsAllowedItem c.manifest (bounds_of c) item
  pub few : map.len c.items < 2 ^ 32
  pub prepares : IsPendingWithin (bounds_of c) c.prepares

-- the keys of changes that wait
abbrev pub keys_waiting : List Pending → List DocKey
keys_waiting prepares = list_map (λ (p : Pending). p.key) prepares

-- the sequence numbers of items, and the positions of changes that wait
abbrev pub numbers_in : List Item → List Pending → List ℕ
numbers_in items prepares = list_map (λ (i : Item). i.seqno) items ++ list_map (λ (p : Pending). p.position) prepares

-- A content that has bytes: its parts keep their limits; no two changes that wait name one key; of all its items and changes
-- that wait, no two were made by one entry; and it isn't too large.
pub record IsWhole (c : Content) : Type 0 where
  pub parts : HasBytes c
  pub apart : IsDistinct (eq_by_cmp key_cmp) (keys_waiting c.prepares)
  pub one_each : IsDistinct nat_eq (numbers_in (map.values c.items) c.prepares)
  pub within : IsTrue (is_within c)

-- ---- bytes

-- an item whose parts have bytes
pub record CanBeSpelt (item : Item) : Type 0 where
  pub key : IsAllowedKey item.key
  pub what : IsAllowedWhat item.what

-- an item: its key, its sequence number, what the key has
abbrev pub item_bytes : Item → List ℕ
item_bytes item = key_bytes item.key ++ (to_be_bytes w64 item.seqno ++ what_bytes item.what)

-- their count, and one after another
abbrev pub items_bytes : List Item → List ℕ
items_bytes items = to_be_bytes w32 (length items) ++ flat_map item_bytes items

-- the state of a manifest, items, changes that wait
abbrev pub body_bytes : Catalog → List Item → List Pending → List ℕ
body_bytes manifest items prepares = state_of manifest ++ (items_bytes items ++ pending_bytes prepares)

-- A content: its length, its greatest CAS, the state of its manifest, its items in rising order of
-- their keys, the changes that wait.
abbrev pub content_bytes : Content → List ℕ
content_bytes c =
    to_be_bytes w64 c.length
    ++ (to_be_bytes w64 c.greatest_cas ++ body_bytes c.manifest (map.values c.items) c.prepares)

-- a content has these bytes
pub record IsContent (c : Content) (bytes : List ℕ) : Type 0 where
  pub whole : IsWhole c
  pub spelled : bytes ≡ content_bytes c

-- ---- items in rising order of their keys

-- whether a key comes behind the one before it, where there is one
abbrev pub is_later : Option DocKey → DocKey → Bool
is_later None key = true
is_later (Some before) key = is_lt (key_cmp before key)

-- whether a key may be the next: it comes behind the one before it, and its collection is there
abbrev pub may_follow : Catalog → Option DocKey → DocKey → Bool
may_follow manifest before key = is_later before key && has_collection manifest key.collection

-- an item whose key may be the next
pub record IsNextItem (manifest : Catalog) (bounds : Bounds) (before : Option DocKey) (item : Item) : Type 0 where
  pub allowed : IsAllowedItem manifest bounds item
  pub later : IsTrue (is_later before item.key)

-- items of which each may be the next
abbrev pub AreItems : Catalog → Bounds → Option DocKey → List Item → Type 0
AreItems manifest bounds before [] = Unit {0}
AreItems manifest bounds before (i ∷ is) =
    IsNextItem manifest bounds before i × AreItems manifest bounds (Some i.key) is

-- they are as many as can be counted
pub record AreItemsWithin (manifest : Catalog) (bounds : Bounds) (items : List Item) : Type 0 where
  pub rising : AreItems manifest bounds None items
  pub few : length items < 2 ^ 32

-- ---- the layout

-- a key that passes a test; what follows may depend on it
abbrev pub passing_key_layout : (DocKey → Bool) → (DocKey → Layout) → Layout
passing_key_layout test next = byte 0 SPELT_KEY_LIMIT (λ size. key_field size test next)

-- an item; what follows may depend on its key
abbrev pub item_layout : Catalog → Bounds → Option DocKey → (DocKey → Layout) → Layout
item_layout manifest bounds before next =
    passing_key_layout (may_follow manifest before) (λ key.
    number eight 1 bounds.last (λ seqno. what_layout bounds.cas (next key)))

-- so many of them, in rising order of their keys
abbrev pub all_items_layout : Catalog → Bounds → ℕ → Option DocKey → Layout → Layout
all_items_layout manifest bounds zero before next = next
all_items_layout manifest bounds (suc count) before next =
    item_layout manifest bounds before (λ key. all_items_layout manifest bounds count (Some key) next)

-- their count, and one after another
abbrev pub items_layout : Catalog → Bounds → Layout → Layout
items_layout manifest bounds next =
    number four 0 (2 ^ 32 - 1) (λ count. all_items_layout manifest bounds count None next)

-- what follows the length and the greatest CAS, which no other part passes
abbrev pub body_layout : Bounds → Layout
body_layout bounds =
    state_field (λ manifest. items_layout manifest bounds (pending_layout bounds end))

-- the layout of a content
abbrev pub content_layout : Layout
content_layout =
    number eight 0 GREATEST_POSITION (λ last.
    number eight 0 GREATEST_CAS (λ cas. body_layout (record { last = last; cas = cas })))

-- ---- reading

-- the key of the last of some items
abbrev pub last_key : List Item → Option DocKey
last_key items = option_map (λ i. i.key) (slice_get items (length items - 1))

-- an item whose key may be the next stands at the front
pub record ItemAt (manifest : Catalog) (bounds : Bounds) (before : Option DocKey) (bytes : List ℕ) (item : Item) (rest : List ℕ) : Type 0 where
  pub allowed : IsNextItem manifest bounds before item
  pub front : bytes ≡ item_bytes item ++ rest

-- items stand there
pub record ItemsAt (manifest : Catalog) (bounds : Bounds) (bytes : List ℕ) (items : List Item) (rest : List ℕ) : Type 0 where
  pub allowed : AreItemsWithin manifest bounds items
  pub front : bytes ≡ items_bytes items ++ rest

-- a manifest, items and changes that wait stand there, and nothing follows
pub record BodyAt (bounds : Bounds) (bytes : List ℕ) (body : Body) : Type 0 where
  pub kept : IsTrue (is_kept body.manifest)
  pub items : AreItemsWithin body.manifest bounds body.items
  pub prepares : IsPendingWithin bounds body.prepares
  pub whole : bytes ≡ body_bytes body.manifest body.items body.prepares

-- the parts of a content stand there, and nothing follows
pub record PartsAt (bytes : List ℕ) (bounds : Bounds) (body : Body) : Type 0 where
  pub last : bounds.last ≤ GREATEST_POSITION
  pub cas : bounds.cas ≤ GREATEST_CAS
  pub whole : bytes ≡ to_be_bytes w64 bounds.last ++ (to_be_bytes w64 bounds.cas ++ body_bytes body.manifest body.items body.prepares)
  pub parts : BodyAt bounds (body_bytes body.manifest body.items body.prepares) body
