-- What a store holds.
use Rattle.std.specs.Prelude.{◌≡◌, ◌⊎◌, ℕ, ◌<◌, Bool, List, [], ◌∷◌, length, map as list_map, if◌then◌else◌}
use Rattle.std.specs.List.{AllByRecursion}
use Rattle.std.specs.FinMap as map
use Rattle.doc_model.specs.declared.document.Item.{Item}
use Rattle.doc_model.specs.Keys.{key_cmp}
use Rattle.durability_core.specs.declared.chain.Chain.{Chain}
use Rattle.durability_core.specs.Chains.{IsChain}
use Rattle.manifest_rules.specs.Catalog.{Catalog}
use Rattle.manifest_rules.specs.State.{IsAt}
use Rattle.vb_log.specs.Content.{without}
use Rattle.magma_store.specs.declared.meta.Meta.{Meta}
use Rattle.magma_store.specs.declared.meta.Numbers.{Numbers}
use Rattle.magma_store.specs.Changes.{Change, Sets, Writes, IsChange, made_bytes, change_bytes}
use Rattle.magma_store.specs.Journal.{IsJournal, Rests, journal_bytes}
use Rattle.magma_disk.specs.Device.{Device}

-- what each key has, and what stands beside the items
pub record Held : Type 0 where
  pub items : map.FinMap key_cmp Item
  pub meta : Meta

-- a store that was just made
abbrev pub first_held : Chain → ℕ → Held
first_held chain place = record {
  items = map.empty;
  meta = record {
    chain = chain;
    place = place;
    promise = 0;
    accepted = 0;
    incarnation = 1;
    length = 0;
    cas = 0;
    tail = [];
  };
}

-- ---- a change

-- the numbers of what stands beside the items
abbrev pub numbers_of : Meta → Numbers
numbers_of meta = record {
  promise = meta.promise;
  accepted = meta.accepted;
  incarnation = meta.incarnation;
  length = meta.length;
  cas = meta.cas;
}

-- with other numbers and another tail
abbrev pub with_numbers : Numbers → List ℕ → Meta → Meta
with_numbers numbers tail meta = record meta {
  promise = numbers.promise;
  accepted = numbers.accepted;
  incarnation = numbers.incarnation;
  length = numbers.length;
  cas = numbers.cas;
  tail = tail;
}

-- with these items over those that are there, the last of a key over those before it
abbrev pub with_items : map.FinMap key_cmp Item → List Item → map.FinMap key_cmp Item
with_items items [] = items
with_items items (i ∷ is) = with_items (map.insert items i.key i) is

-- The collections that a tail names as dropped: those of the manifest whose state it begins with, none where it begins
-- with no state.
pub record Drops (tail : List ℕ) (dropped : List ℕ) : Type 0 where
  pub manifest : Catalog
  pub size : ℕ
  pub at : IsAt tail manifest size
  pub is : dropped ≡ manifest.dropped_collections

abbrev pub AreDropped : List ℕ → List ℕ → Type 0
AreDropped tail dropped =
    Drops tail dropped ⊎ ((dropped ≡ []) × ((manifest : Catalog) (size : ℕ) → IsAt tail manifest size → ⊥))

-- the items that a write begins with: none where it is anew, else those there without those of dropped collections
abbrev pub items_left : Bool → List ℕ → map.FinMap key_cmp Item → map.FinMap key_cmp Item
items_left is_anew dropped items = if is_anew then map.empty else without items dropped

-- A store that holds the one may hold the other after a change.
abbrev pub Becomes : Change → Held → Held → Type 0
Becomes (Sets numbers) old new = new ≡ record old { meta = with_numbers numbers old.meta.tail old.meta }
Becomes (Writes is_anew numbers tail items) old new =
    (dropped : List ℕ) × AreDropped tail dropped
    × (new ≡ record {
      items = with_items (items_left is_anew dropped old.items) items;
      meta = with_numbers numbers tail old.meta;
    })

-- a store that holds the one may hold the other after these changes
abbrev pub BecomesBy : List Change → Held → Held → Type 0
BecomesBy [] old new = new ≡ old
BecomesBy (c ∷ cs) old new = (mid : Held) × Becomes c old mid × BecomesBy cs mid new

-- ---- a device

-- what the records of a store hold
abbrev pub records_of : Chain → ℕ → List Change → List (List ℕ)
records_of chain place changes = made_bytes chain place ∷ list_map change_bytes changes

-- a store was made for a place of a chain, and changed so
pub record IsHistory (held : Held) (chain : Chain) (place : ℕ) (changes : List Change) : Type 0 where
  pub chain_allowed : IsChain chain
  pub place_there : place < length chain.names
  pub changes_allowed : AllByRecursion IsChange changes
  pub becomes : BecomesBy changes (first_held chain place) held

-- The bytes are those of a store that holds this, and its records fill so many of them.
pub record IsStore (held : Held) (filled : ℕ) (bytes : List ℕ) : Type 0 where
  pub chain : Chain
  pub place : ℕ
  pub changes : List Change
  pub history : IsHistory held chain place changes
  pub journal : IsJournal (records_of chain place changes) bytes
  pub size : filled ≡ length (journal_bytes (records_of chain place changes))

-- no store was made on the device
abbrev pub IsUnused : List ℕ → Type 0
IsUnused bytes = IsJournal [] bytes

-- A device is at rest that has the bytes of such a store.
pub record RestsWith (held : Held) (filled : ℕ) (d : Device) : Type 0 where
  pub chain : Chain
  pub place : ℕ
  pub changes : List Change
  pub history : IsHistory held chain place changes
  pub rests : Rests (records_of chain place changes) d
  pub size : filled ≡ length (journal_bytes (records_of chain place changes))

-- a disk that tells its states is such a device
abbrev pub IsOnDisk : Held → ℕ → List Device → Type 0
IsOnDisk held filled [] = ⊥
IsOnDisk held filled (d ∷ past) = RestsWith held filled d
