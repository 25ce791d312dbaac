-- A store in memory, and what its calls do.
use Rattle.std.specs.Prelude.{◌≡◌, ◌⊎◌, ℕ, ◌+◌, ◌<◌, ◌≤◌, ◌^◌, nat_le, Bool, List, [], ◌∷◌, ◌++◌, length, take, drop, IsTrue, Option, Some, None, Result, Ok, Err, if◌then◌else◌, refl}
use Rattle.std.specs.FinMap as map
use Rattle.std.specs.Coded.{Coded, code_by, coded×, coded_ℕ}
use Rattle.std.specs.List.{AllByRecursion}
use Rattle.std.specs.List.Sorted.{IsNonDecreasingBy, IsPermutation}
use Rattle.doc_model.specs.declared.key.DocKey.{DocKey}
use Rattle.doc_model.specs.declared.document.Item.{Item}
use Rattle.doc_model.specs.Keys.{key_cmp}
use Rattle.doc_model.specs.Values.{AreValues}
use Rattle.durability_core.specs.declared.chain.Chain.{Chain}
use Rattle.manifest_rules.specs.Catalog.{Catalog}
use Rattle.manifest_rules.specs.State.{is_kept, state_of}
use Rattle.vb_log.specs.Content.{cas_of, has_collection}
use Rattle.vb_log.specs.Contents.{item_bytes}
use Rattle.vb_log.specs.Held.{item_weight}
use Rattle.vb_log.specs.Parts.{is_behind}
use Rattle.vb_log.specs.Stored.{IsStorable}
use Rattle.magma_disk.specs.Device.{Device, IsImage}
use Rattle.magma_disk.specs.Calls.{MayLeave, Settles}
use Rattle.magma_store.specs.declared.meta.Meta.{Meta}
use Rattle.magma_store.specs.declared.spot.Spot.{Spot}
use Rattle.magma_store.specs.declared.fault.StoreFault.{StoreFault}
use Rattle.magma_store.specs.declared.fault.StoreFault.TheVariants as fault
use Rattle.magma_store.specs.declared.kinds.TheConstants.{SPENT}
use Rattle.magma_store.specs.Changes.{AreNumbers}
use Rattle.magma_store.specs.Forms.{IsDamaged}
use Rattle.magma_store.specs.Held.{Held, first_held, numbers_of, with_items, items_left, IsStore, IsUnused, IsOnDisk}
use Rattle.magma_store.specs.Layout.{LaysNumbers, LaysNew}

-- ---- in memory

-- a store: its disk, where each key's item stands there, what stands beside the items, and its layout
pub record Shown (D : Type 0) : Type 0 where
  pub disk : D
  pub spots : map.FinMap key_cmp Spot
  pub meta : Meta
  pub layout : ℕ

abbrev pub coded_store : {D : Type 0} → Coded D → Coded Spot → Coded DocKey → Coded Meta → Coded (Shown D)
coded_store {D = D} disk spot key meta =
    code_by (D × (map.FinMap key_cmp Spot × (Meta × ℕ))) (coded× disk (coded× (map.code key spot) (coded× meta coded_ℕ)))
    (λ s. (s.disk, (s.spots, (s.meta, s.layout))))
    (λ p. record { disk = p.0; spots = p.1.0; meta = p.1.1.0; layout = p.1.1.1 }) (λ _. refl)

-- what a store keeps that was made for a place of a chain and is open, on whatever disk
pub record IsOwn (chain : Chain) (place : ℕ) (meta : Meta) : Type 0 where
  pub chain_own : meta.chain ≡ chain
  pub place_own : meta.place ≡ place
  pub numbers : AreNumbers (numbers_of meta)
  pub promise : meta.promise < SPENT
  pub opened : 1 ≤ meta.incarnation
  pub incarnation : meta.incarnation ≤ SPENT

-- an item's bytes stand at a spot, before an end
pub record StandsAt (bytes : List ℕ) (end : ℕ) (spot : Spot) (item : Item) : Type 0 where
  pub seqno : spot.seqno ≡ item.seqno
  pub len : spot.length ≡ length (item_bytes item)
  pub weight : spot.weight ≡ item_weight item
  pub cas : spot.cas ≡ cas_of item.what
  pub read : take spot.length (drop spot.at bytes) ≡ item_bytes item
  pub before : spot.at + spot.length ≤ end

-- a key has an item, and its bytes stand at its spot; or it has neither
abbrev pub Leads : List ℕ → ℕ → DocKey → Option Spot → Option Item → Type 0
Leads bytes end key None None = Unit {0}
Leads bytes end key (Some spot) (Some item) = (item.key ≡ key) × IsStorable item × StandsAt bytes end spot item
Leads bytes end key None (Some item) = ⊥
Leads bytes end key (Some spot) None = ⊥

-- spots lead to the items, and to nothing else
abbrev pub LeadTo : map.FinMap key_cmp Spot → map.FinMap key_cmp Item → ℕ → List Device → Type 0
LeadTo spots items end [] = ⊥
LeadTo spots items end (d ∷ past) =
    (key : DocKey) → Leads d.bytes end key (map.get spots key) (map.get items key)

-- A store is open that holds this: all of it is on its disk, and it knows it. A disk that doesn't tell its states isn't known
-- to hold anything.
pub record IsOpen {D : Type 0} (states : D → List Device) (held : Held) (store : Shown D) : Type 0 where
  pub on_disk : IsOnDisk held store.layout (states store.disk)
  pub meta : store.meta ≡ held.meta
  pub spots : LeadTo store.spots held.items store.layout (states store.disk)

-- ---- what a crash leaves

-- these bytes are those of a store that holds the one in one layout, or the other in another
abbrev pub Either : Held → ℕ → Held → ℕ → List ℕ → Type 0
Either old layout new after image = IsStore old layout image ⊎ IsStore new after image

-- ---- numbers

-- a store with a promise
abbrev pub promised : ℕ → Held → Held
promised term held = record held { meta = record held.meta { promise = term } }

-- opened once more
abbrev pub raised : Held → Held
raised held = record held { meta = record held.meta { incarnation = held.meta.incarnation + 1 } }

-- ---- a write

-- What is written of a store: the manifest, behind whose state the tail goes on, is one that may be kept; the items are
-- such as some content may have, of collections that it has; the accepted term was promised.
pub record IsBatch (manifest : Catalog) (batch : List Item) (meta : Meta) : Type 0 where
  pub kept : IsTrue (is_kept manifest)
  pub rest : List ℕ
  pub tail : meta.tail ≡ state_of manifest ++ rest
  pub short : length meta.tail < 2 ^ 32
  pub few : length batch < 2 ^ 32
  pub storable : AllByRecursion IsStorable batch
  pub numbers : AreNumbers (numbers_of meta)
  pub present : AllByRecursion (λ (i : Item). IsTrue (has_collection manifest i.key.collection)) batch

-- what a store holds once a batch is put over its items, or in their place
abbrev pub written : Bool → Catalog → List Item → Meta → Held → Held
written is_anew manifest batch meta held = record {
  items = with_items (items_left is_anew manifest.dropped_collections held.items) batch;
  meta = meta;
}

-- Why a store didn't write that needs so many segments where so many are free: the disk failed, which it was asked for only
-- where there was room; there was no room, or memory was refused, and nothing changed.
abbrev pub IsUnwritten : {D : Type 0} → (D → List Device) → ℕ → ℕ → Shown D → Shown D → StoreFault → Type 0
IsUnwritten states needed free old new fault.DiskFault = (needed ≤ free) ⊎ (states new.disk ≡ states old.disk)
IsUnwritten states needed free old new (fault.Full asked left) =
    (new ≡ old) × (asked ≡ needed) × (left ≡ free) × (free < needed)
IsUnwritten states needed free old new (fault.Damaged place found expected) = ⊥
IsUnwritten states needed free old new (fault.Spent found) = ⊥
IsUnwritten states needed free old new fault.OtherChain = ⊥
IsUnwritten states needed free old new fault.NoMemory = new ≡ old

-- why nothing was read: the disk failed, or memory was refused
abbrev pub IsUnread : StoreFault → Type 0
IsUnread fault.DiskFault = Unit {0}
IsUnread (fault.Full needed free) = ⊥
IsUnread (fault.Damaged place found expected) = ⊥
IsUnread (fault.Spent found) = ⊥
IsUnread fault.OtherChain = ⊥
IsUnread fault.NoMemory = Unit {0}

-- ---- openings

-- the promise or the incarnation of a store that isn't opened any more, the promise where both are
abbrev pub spent_number : Meta → Option ℕ
spent_number meta =
    if nat_le SPENT meta.promise then Some meta.promise
    else (if nat_le SPENT meta.incarnation then Some meta.incarnation else None)

-- bytes are those of a store that was made for a place of a chain, and that may be opened once more
pub record CanBeOpened (bytes : List ℕ) (chain : Chain) (place : ℕ) (held : Held) (layout : ℕ) : Type 0 where
  pub is_store : IsStore held layout bytes
  pub chain_own : held.meta.chain ≡ chain
  pub place_own : held.meta.place ≡ place
  pub unspent : spent_number held.meta ≡ None

-- a store was made on a device without one
pub record IsMade {D : Type 0} (states : D → List Device) (bytes : List ℕ) (chain : Chain) (place : ℕ) (store : Shown D) : Type 0 where
  pub unused : IsUnused bytes
  pub is_open : IsOpen states (first_held chain place) store
  pub lays : LaysNew chain store.layout

-- the store of a device was opened once more
pub record IsRaised {D : Type 0} (states : D → List Device) (bytes : List ℕ) (chain : Chain) (place : ℕ) (store : Shown D) : Type 0 where
  pub held : Held
  pub layout : ℕ
  pub before : CanBeOpened bytes chain place held layout
  pub is_open : IsOpen states (raised held) store
  pub lays : LaysNumbers layout store.layout

-- why a device isn't opened: it is damaged; its store is another's; or it is spent
abbrev pub IsRefused : List ℕ → Chain → ℕ → StoreFault → Type 0
IsRefused bytes chain place fault.DiskFault = Unit {0}
IsRefused bytes chain place (fault.Full needed free) = ⊥
IsRefused bytes chain place (fault.Damaged at found expected) = IsDamaged bytes at found expected
IsRefused bytes chain place (fault.Spent found) =
    (held : Held) × (layout : ℕ) × IsStore held layout bytes × (held.meta.chain ≡ chain) × (held.meta.place ≡ place)
    × (spent_number held.meta ≡ Some found)
IsRefused bytes chain place fault.OtherChain =
    (held : Held) × (layout : ℕ) × IsStore held layout bytes
    × ((held.meta.chain ≡ chain) → (held.meta.place ≡ place) → ⊥)
IsRefused bytes chain place fault.NoMemory = Unit {0}

-- what an opening comes to, of a disk that has these states as it begins
abbrev pub Opens : {D : Type 0} → (D → List Device) → List Device → Chain → ℕ → Result (Shown D) StoreFault → Type 0
Opens states [] chain place result = Unit {0}
Opens states (d ∷ past) chain place (Ok store) =
    IsMade states d.bytes chain place store ⊎ IsRaised states d.bytes chain place store
Opens states (d ∷ past) chain place (Err why) = IsRefused d.bytes chain place why

-- What a crash in the midst of an opening leaves: what it may have left as the opening began; or, where what was read is
-- one of that, the store that was there, as it was or opened once more; or no store, where none was, or one that was just
-- made.
abbrev pub LeavesOpening : List Device → Chain → ℕ → List ℕ → Type 0
LeavesOpening [] chain place image = Unit {0}
LeavesOpening (d ∷ past) chain place image =
    MayLeave (d ∷ past) image
    ⊎ (IsImage d d.bytes
    × (((held : Held) × (layout : ℕ) × (after : ℕ) × CanBeOpened d.bytes chain place held layout
    × LaysNumbers layout after × Either held layout (raised held) after image)
    ⊎ (IsUnused d.bytes
    × (IsUnused image ⊎ ((after : ℕ) × LaysNew chain after × IsStore (first_held chain place) after image)))))

-- what a crash leaves that may have left these states' images: one of them; or, where what was read is one, the same store,
-- or no store where none was
abbrev pub LeavesSame : Device → List Device → List ℕ → Type 0
LeavesSame d past image =
    MayLeave (d ∷ past) image
    ⊎ (IsImage d d.bytes
    × (((held : Held) × (layout : ℕ) × IsStore held layout d.bytes × IsStore held layout image)
    ⊎ (IsUnused d.bytes × IsUnused image)))

-- What a refused opening leaves of the disk: after a fault, what a crash in its midst leaves; where the device isn't to be
-- opened, its bytes; where memory was refused, the same store, or none.
abbrev pub LeavesDisk : StoreFault → List Device → List Device → Type 0
LeavesDisk why [] now = now ≡ []
LeavesDisk fault.DiskFault (d ∷ past) now = Unit {0}
LeavesDisk (fault.Full needed free) (d ∷ past) now = ⊥
LeavesDisk (fault.Damaged place found expected) (d ∷ past) now = Settles d.bytes d past now
LeavesDisk (fault.Spent found) (d ∷ past) now = Settles d.bytes d past now
LeavesDisk fault.OtherChain (d ∷ past) now = Settles d.bytes d past now
LeavesDisk fault.NoMemory (d ∷ past) now = (image : List ℕ) → MayLeave now image → LeavesSame d past image

-- ---- items behind a sequence number

-- the items of a map that were made behind a sequence number
abbrev pub behind : ℕ → map.FinMap key_cmp Item → map.FinMap key_cmp Item
behind seqno items = map.retain_keys items (λ key. is_behind seqno (map.get items key))

-- these are they, each once, in rising order of their sequence numbers
pub record AreSince (seqno : ℕ) (items : map.FinMap key_cmp Item) (found : List Item) : Type 0 where
  pub values : List Item
  pub are : AreValues (behind seqno items) values
  pub moved : IsPermutation values found
  pub rise : IsNonDecreasingBy (λ (i : Item). i.seqno) found
