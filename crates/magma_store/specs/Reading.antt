-- What was read of a record.
use Rattle.std.specs.Prelude.{◌≡◌, ℕ, ◌+◌, ◌<◌, List, length}
use Rattle.durability_core.specs.declared.chain.Chain.{Chain}
use Rattle.durability_core.specs.Chains.{IsChain}
use Rattle.magma_store.specs.declared.reading.Told.{Told}
use Rattle.magma_store.specs.declared.reading.Told.TheVariants as told
use Rattle.magma_store.specs.Changes.{Change, Sets, Writes, IsChange, made_bytes, change_bytes}
use Rattle.magma_store.specs.Spots.{placed}

-- the offset of the first item within what a record holds that writes this tail
abbrev pub items_behind : List ℕ → ℕ
items_behind tail = 49 + length tail

-- what was read tells a change, of which the record holds the bytes at an offset
abbrev pub Tells : ℕ → Change → Told → Type 0
Tells at (Sets numbers) (told.Sets found) = found ≡ numbers
Tells at (Writes is_anew numbers tail items) (told.Writes anew found bytes places) =
    (anew ≡ is_anew) × (found ≡ numbers) × (bytes.now ≡ tail) × (places ≡ placed (at + items_behind tail) items)
Tells at (Sets numbers) (told.Writes anew found bytes places) = ⊥
Tells at (Writes is_anew numbers tail items) (told.Sets found) = ⊥

-- bytes are those of a change, and what was read tells it
pub record IsTold (at : ℕ) (bytes : List ℕ) (read : Told) : Type 0 where
  pub change : Change
  pub allowed : IsChange change
  pub spelled : bytes ≡ change_bytes change
  pub tells : Tells at change read

-- the bytes are those of a record with which a store is made for a place of a chain
pub record IsMaking (bytes : List ℕ) (chain : Chain) (place : ℕ) : Type 0 where
  pub allowed : IsChain chain
  pub there : place < length chain.names
  pub spelled : bytes ≡ made_bytes chain place
