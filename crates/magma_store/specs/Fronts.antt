-- The parts of a record at the front of bytes.
use Rattle.std.specs.Prelude.{◌≡◌, ◌⊎◌, ℕ, ◌+◌, ◌≤◌, ◌<◌, ◌^◌, List, ◌∷◌, ◌++◌, length, Option, Some, None, IsTrue}
use Rattle.std.specs.Int.{Width, w8, w32, w64, to_be_bytes}
use Rattle.std.specs.List.{flat_map, AllByRecursion}
use Rattle.doc_model.specs.declared.document.Item.{Item}
use Rattle.durability_core.specs.declared.chain.Chain.{Chain}
use Rattle.durability_core.specs.Chains.{IsChain, IsName, begins_named}
use Rattle.vb_log.specs.Contents.{item_bytes, items_bytes}
use Rattle.vb_log.specs.Spelling.{sized}
use Rattle.vb_log.specs.Stored.{IsStorable}
use Rattle.magma_store.specs.declared.kinds.TheConstants.{MAGIC}
use Rattle.magma_store.specs.declared.meta.Numbers.{Numbers}
use Rattle.magma_store.specs.declared.spot.Placed.{Placed}
use Rattle.magma_store.specs.Changes.{AreNumbers, AreWords, name_bytes, numbers_bytes}
use Rattle.magma_store.specs.Forms.{Form, field, run, any, exactly, between, accepted_within, names_form, FieldAt}
use Rattle.magma_store.specs.Spots.{spot_at, placed}

-- ---- one field

-- a number of this width stands at the front, and keeps its bounds
pub record KeptAt (width : Width) (broken : ℕ → Option ℕ) (bytes : List ℕ) (n : ℕ) (behind : List ℕ) : Type 0 where
  pub at : FieldAt width bytes n behind
  pub kept : broken n ≡ None

-- so many bytes stand there
pub record RunAt (size : ℕ) (bytes piece behind : List ℕ) : Type 0 where
  pub front : bytes ≡ piece ++ behind
  pub whole : length piece ≡ size

-- ---- numbers

-- the form of a promise and of the accepted term beside it
abbrev pub terms_form : Form → Form
terms_form next = field w64 any (λ promise. field w64 (accepted_within promise) (λ accepted. next))

-- the form of an incarnation, a length and a CAS
abbrev pub counts_form : Form → Form
counts_form next = field w64 any (λ incarnation. field w64 any (λ log. field w64 any (λ cas. next)))

-- a promise and the accepted term beside it stand there
pub record TermsAt (bytes : List ℕ) (promise accepted : ℕ) (behind : List ℕ) : Type 0 where
  pub promised : accepted ≤ promise
  pub term : (accepted ≡ 0) ⊎ (4 ≤ accepted)
  pub promise_small : promise < 2 ^ 64
  pub accepted_small : accepted < 2 ^ 64
  pub front : bytes ≡ to_be_bytes w64 promise ++ (to_be_bytes w64 accepted ++ behind)

-- an incarnation, a length and a CAS stand there
pub record CountsAt (bytes : List ℕ) (incarnation log cas : ℕ) (behind : List ℕ) : Type 0 where
  pub incarnation_small : incarnation < 2 ^ 64
  pub log_small : log < 2 ^ 64
  pub cas_small : cas < 2 ^ 64
  pub front : bytes ≡ to_be_bytes w64 incarnation ++ (to_be_bytes w64 log ++ (to_be_bytes w64 cas ++ behind))

-- all five stand there
pub record NumbersAt (bytes : List ℕ) (numbers : Numbers) (behind : List ℕ) : Type 0 where
  pub allowed : AreNumbers numbers
  pub words : AreWords numbers
  pub front : bytes ≡ numbers_bytes numbers ++ behind

-- ---- a chain

-- how many bytes a name has, none where there is no name
abbrev pub name_length : Option (List ℕ) → ℕ
name_length None = 0
name_length (Some name) = length name

-- a name of at least so many bytes stands there
pub record NameAt (least : ℕ) (bytes : List ℕ) (name : Option (List ℕ)) (behind : List ℕ) : Type 0 where
  pub allowed : IsName name
  pub long : least ≤ name_length name
  pub front : bytes ≡ name_bytes name ++ behind

-- the form of such a name
abbrev pub name_form : ℕ → Form → Form
name_form least next = field w8 (between least 255) (λ size. run size next)

-- so many names stand there, of which the first is one
pub record NamesAt (count : ℕ) (bytes : List ℕ) (names : List (Option (List ℕ))) (behind : List ℕ) : Type 0 where
  pub counted : length names ≡ count
  pub allowed : AllByRecursion IsName names
  pub first : IsTrue (begins_named names)
  pub front : bytes ≡ flat_map name_bytes names ++ behind

-- the form of a chain, behind the bytes with which a store's first record begins; what follows may depend on its count
abbrev pub chain_form : (ℕ → Form) → Form
chain_form next =
    field w32 (exactly MAGIC) (λ magic. field w8 (between 1 4) (λ count. names_form 1 count (next count)))

-- a chain stands there behind those bytes
pub record ChainAt (bytes : List ℕ) (chain : Chain) (behind : List ℕ) : Type 0 where
  pub allowed : IsChain chain
  pub front : bytes ≡ to_be_bytes w32 MAGIC ++ (length chain.names ∷ (flat_map name_bytes chain.names ++ behind))

-- ---- items

-- the key and the spot of an item that stands at an offset
abbrev pub spot_of : ℕ → Item → Placed
spot_of at i = record { key = i.key; spot = spot_at at i }

-- an item stands at the front, which is at an offset
pub record PlacedAt (at : ℕ) (bytes : List ℕ) (place : Placed) (behind : List ℕ) : Type 0 where
  pub item : Item
  pub allowed : IsStorable item
  pub front : bytes ≡ item_bytes item ++ behind
  pub is : place ≡ spot_of at item

-- the bytes, of which the first is at an offset, are so many items
pub record PlacesAt (at count : ℕ) (bytes : List ℕ) (places : List Placed) : Type 0 where
  pub items : List Item
  pub allowed : AllByRecursion IsStorable items
  pub counted : length items ≡ count
  pub whole : bytes ≡ flat_map item_bytes items
  pub are : places ≡ placed at items

-- the bytes, of which the first is at an offset, are a tail and items
pub record BatchAt (at : ℕ) (bytes tail : List ℕ) (places : List Placed) : Type 0 where
  pub items : List Item
  pub allowed : AllByRecursion IsStorable items
  pub short : length tail < 2 ^ 32
  pub few : length items < 2 ^ 32
  pub whole : bytes ≡ sized tail ++ items_bytes items
  pub are : places ≡ placed (at + (8 + length tail)) items
