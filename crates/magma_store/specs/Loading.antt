-- How far the records of a device were read.
use Rattle.std.specs.Prelude.{◌≡◌, ℕ, List, [], length, Option, Some, None}
use Rattle.std.specs.FinMap as map
use Rattle.doc_model.specs.declared.key.DocKey.{DocKey}
use Rattle.doc_model.specs.declared.document.Item.{Item}
use Rattle.doc_model.specs.Keys.{key_cmp}
use Rattle.durability_core.specs.declared.chain.Chain.{Chain}
use Rattle.magma_store.specs.declared.fault.StoreFault.{StoreFault}
use Rattle.magma_store.specs.declared.fault.StoreFault.TheVariants as fault
use Rattle.magma_store.specs.declared.loading.Loaded.{Loaded}
use Rattle.magma_store.specs.declared.meta.Meta.{Meta}
use Rattle.magma_store.specs.declared.spot.Spot.{Spot}
use Rattle.magma_store.specs.Changes.{Change}
use Rattle.magma_store.specs.Forms.{IsDamaged}
use Rattle.magma_store.specs.Held.{Held, IsHistory, records_of}
use Rattle.magma_store.specs.Journal.{IsJournal, journal_bytes}
use Rattle.magma_store.specs.Store.{Leads}

-- spots lead to the items, whose bytes stand among these
abbrev pub LeadIn : map.FinMap key_cmp Spot → map.FinMap key_cmp Item → List ℕ → Type 0
LeadIn spots items bytes = (key : DocKey) → Leads bytes (length bytes) key (map.get spots key) (map.get items key)

-- records are those of a store's history, and spots and what stands beside the items are those of what it holds
pub record Tells (records : List (List ℕ)) (spots : map.FinMap key_cmp Spot) (meta : Meta) : Type 0 where
  pub chain : Chain
  pub place : ℕ
  pub changes : List Change
  pub held : Held
  pub history : IsHistory held chain place changes
  pub records_are : records ≡ records_of chain place changes
  pub meta_is : meta ≡ held.meta
  pub lead : LeadIn spots held.items (journal_bytes records)

-- no record was read, or such records
abbrev pub TellsAll : List (List ℕ) → map.FinMap key_cmp Spot → Option Meta → Type 0
TellsAll records spots None = (records ≡ []) × (spots ≡ map.empty)
TellsAll records spots (Some meta) = Tells records spots meta

-- these records were read
pub record IsLoadedBy (records : List (List ℕ)) (loaded : Loaded) : Type 0 where
  pub filled : loaded.filled ≡ length (journal_bytes records)
  pub tells : TellsAll records loaded.spots loaded.meta

-- all records of a file were read
abbrev pub IsLoaded : List ℕ → Loaded → Type 0
IsLoaded file loaded = (records : List (List ℕ)) × IsLoadedBy records loaded × IsJournal records file

-- why they weren't: the disk failed, the file is damaged, or memory was refused
abbrev pub IsUnloaded : List ℕ → StoreFault → Type 0
IsUnloaded file fault.DiskFault = Unit {0}
IsUnloaded file (fault.Full needed free) = ⊥
IsUnloaded file (fault.Damaged place found expected) = IsDamaged file place found expected
IsUnloaded file (fault.Spent found) = ⊥
IsUnloaded file fault.OtherChain = ⊥
IsUnloaded file fault.NoMemory = Unit {0}
