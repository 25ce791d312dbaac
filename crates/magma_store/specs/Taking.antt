-- What one more record changes of what was read of those before it.
use Rattle.std.specs.Prelude.{◌≡◌, ℕ, ◌+◌, ◌≤◌, ◌<◌, ◌^◌, Bool, not, List, ◌++◌, length, IfSome, if◌then◌else◌}
use Rattle.std.specs.FinMap as map
use Rattle.doc_model.specs.Keys.{key_cmp, is_in}
use Rattle.durability_core.specs.declared.chain.Chain.{Chain}
use Rattle.magma_store.specs.declared.fields.FormFault.{FormFault}
use Rattle.magma_store.specs.declared.fields.FormFault.TheVariants as broken
use Rattle.magma_store.specs.declared.loading.Loaded.{Loaded}
use Rattle.magma_store.specs.declared.meta.Meta.{Meta}
use Rattle.magma_store.specs.declared.spot.Spot.{Spot}
use Rattle.magma_store.specs.Changes.{Change, Sets, Writes, AreNumbers, IsChange, change_bytes}
use Rattle.magma_store.specs.Held.{first_held, numbers_of, with_numbers, AreDropped}
use Rattle.magma_store.specs.Journal.{CanBeCounted, journal_bytes, record_bytes}
use Rattle.magma_store.specs.Loading.{IsLoadedBy}
use Rattle.magma_store.specs.Reading.{IsMaking, items_behind}
use Rattle.magma_store.specs.Spots.{AllLead, placed, with_spots}

-- the bytes are those of a record that makes a store, and this stands beside its items
pub record IsBegun (bytes : List ℕ) (meta : Meta) : Type 0 where
  pub chain : Chain
  pub place : ℕ
  pub making : IsMaking bytes chain place
  pub is : meta ≡ (first_held chain place).meta

-- the spots that a write begins with: none where it is anew, else those there without those of dropped collections
abbrev pub spots_left : Bool → List ℕ → map.FinMap key_cmp Spot → map.FinMap key_cmp Spot
spots_left is_anew dropped spots =
    if is_anew then map.empty else map.retain_keys spots (λ key. not (is_in dropped key))

-- what a change makes of spots and of what stands beside the items, where the record's bytes begin at an offset
abbrev pub Moves : ℕ → Change → map.FinMap key_cmp Spot → Meta → map.FinMap key_cmp Spot → Meta → Type 0
Moves at (Sets numbers) spots meta now new = (now ≡ spots) × (new ≡ with_numbers numbers meta.tail meta)
Moves at (Writes is_anew numbers tail items) spots meta now new =
    ((dropped : List ℕ) × AreDropped tail dropped
    × (now ≡ with_spots (spots_left is_anew dropped spots) (placed (at + items_behind tail) items)))
    × (new ≡ with_numbers numbers tail meta)

-- the bytes are those of a change, and it makes of the ones the others
pub record TakesChange (at : ℕ) (bytes : List ℕ) (spots : map.FinMap key_cmp Spot) (meta : Meta) (now : map.FinMap key_cmp Spot) (new : Meta) : Type 0 where
  pub change : Change
  pub allowed : IsChange change
  pub spelled : bytes ≡ change_bytes change
  pub moves : Moves at change spots meta now new

-- what is so of what was read on whatever disk: no key has room alone, and the accepted term was promised
pub record IsSound (loaded : Loaded) : Type 0 where
  pub lead : AllLead loaded.spots
  pub numbers : IfSome loaded.meta (λ meta. AreNumbers (numbers_of meta))

-- so many bytes are left at most where the form is broken
abbrev pub BreaksWithin : ℕ → FormFault → Type 0
BreaksWithin size (broken.Broken left found expected) = left ≤ size
BreaksWithin size broken.NoMemory = Unit {0}

-- the first records of a file were read
pub record IsReadTo (file : List ℕ) (loaded : Loaded) : Type 0 where
  pub records : List (List ℕ)
  pub by : IsLoadedBy records loaded
  pub counted : CanBeCounted records
  pub rest : List ℕ
  pub parts : file ≡ journal_bytes records ++ rest

-- and a record begins behind them that holds this
pub record NextIs (file : List ℕ) (loaded : Loaded) (held : List ℕ) : Type 0 where
  pub to : IsReadTo file loaded
  pub small : length held < 2 ^ 64
  pub rest : List ℕ
  pub here : to.rest ≡ record_bytes held ++ rest
