-- An item by itself, as a store keeps it, and its bytes.
use Rattle.std.specs.Prelude.{◌≡◌, ℕ, ◌+◌, ◌≤◌, List, ◌++◌, length, drop}
use Rattle.doc_model.specs.declared.document.Item.{Item}
use Rattle.vb_log.specs.declared.limits.TheConstants.{GREATEST_CAS, GREATEST_POSITION}
use Rattle.vb_log.specs.declared.reading.ContentFault.{ContentFault}
use Rattle.vb_log.specs.declared.reading.ContentFault.TheVariants as fault
use Rattle.vb_log.specs.Contents.{IsNumbered, item_bytes}
use Rattle.vb_log.specs.Keys.{IsAllowedKey}
use Rattle.vb_log.specs.Layout.{Layout, number, eight, Breaks}
use Rattle.vb_log.specs.Spelling.{IsAllowedWhat, key_layout, what_layout}

-- an item that some content may have
pub record IsStorable (item : Item) : Type 0 where
  pub key : IsAllowedKey item.key
  pub later : 1 ≤ item.seqno
  pub within : item.seqno ≤ GREATEST_POSITION
  pub what : IsAllowedWhat item.what
  pub numbered : IsNumbered item.seqno item.what

-- its key, its sequence number, what the key has
abbrev pub stored_layout : Layout → Layout
stored_layout next = key_layout (number eight 1 GREATEST_POSITION (λ seqno. what_layout GREATEST_CAS next))

-- an item stands at the front
pub record StoredFront (bytes : List ℕ) (item : Item) (rest : List ℕ) : Type 0 where
  pub allowed : IsStorable item
  pub front : bytes ≡ item_bytes item ++ rest

-- an item stands at the front in so many bytes
pub record StoredAt (bytes : List ℕ) (item : Item) (size : ℕ) : Type 0 where
  pub allowed : IsStorable item
  pub front : bytes ≡ item_bytes item ++ drop size bytes
  pub len : size ≡ length (item_bytes item)

-- the first field of an item that breaks the layout begins behind so many bytes, whatever is to follow
pub record StoredBreaksAt (bytes : List ℕ) (place : ℕ) : Type 0 where
  pub left : ℕ
  pub parts : place + left ≡ length bytes
  pub breaks : (next : Layout) → Breaks (stored_layout next) bytes left

-- no item stands at the front
abbrev pub NothingStored : List ℕ → Type 0
NothingStored bytes = (item : Item) (rest : List ℕ) → IsStorable item → bytes ≡ item_bytes item ++ rest → ⊥

-- why no item was read: none stands at the front, and the bytes break the layout at the place
abbrev pub IsNoItem : List ℕ → ContentFault → Type 0
IsNoItem bytes (fault.Bad place) = StoredBreaksAt bytes place × NothingStored bytes
IsNoItem bytes fault.NoMemory = Unit {0}
