-- What a store holds as a copy goes by it: a pair.
use Rattle.std.specs.Prelude.{◌≡◌, ◌⊎◌, ℕ, List, [], ◌++◌, IsTrue}
use Rattle.manifest_rules.specs.Catalog.{Catalog}
use Rattle.manifest_rules.specs.Rules.{first_catalog}
use Rattle.manifest_rules.specs.State.{is_kept, state_of}
use Rattle.vb_log.specs.declared.entry.Pending.{Pending}
use Rattle.vb_log.specs.Content.{Content}
use Rattle.vb_log.specs.Prepares.{IsAllowedPending, pending_bytes}
use Rattle.durability_core.specs.declared.chain.Chain.{Chain}
use Rattle.copy_model.specs.Copies.{Pair, Copy}
use Rattle.copy_model.specs.Openings.{MayHold}
use Rattle.magma_store.specs.Held.{Held, IsStore}

-- the bytes of a manifest that may be kept, and of changes that wait
pub record IsTail (tail : List ℕ) (manifest : Catalog) (prepares : List Pending) : Type 0 where
  pub kept : IsTrue (is_kept manifest)
  pub allowed : IsAllowedPending prepares
  pub spelled : tail ≡ state_of manifest ++ pending_bytes prepares

-- a tail that has the bytes of none, as the empty one of a new store
abbrev pub IsNoTail : List ℕ → Type 0
IsNoTail tail = (manifest : Catalog) (prepares : List Pending) → IsTail tail manifest prepares → ⊥

-- A tail tells a manifest and the changes that wait; one that has the bytes of none tells the first manifest, and that
-- nothing waits.
abbrev pub Tells : List ℕ → Catalog → List Pending → Type 0
Tells tail manifest prepares =
    IsTail tail manifest prepares
    ⊎ (IsNoTail tail × (manifest ≡ first_catalog) × (prepares ≡ []))

-- what a store holds in a layout is a pair
pub record IsPair (held : Held) (layout : ℕ) (d : Pair Content ℕ) : Type 0 where
  pub promise_is : d.promise ≡ held.meta.promise
  pub accepted_is : d.accepted ≡ held.meta.accepted
  pub incarnation_is : d.incarnation ≡ held.meta.incarnation
  pub layout_is : d.layout ≡ layout
  pub items_are : d.log.items ≡ held.items
  pub tail_tells : Tells held.meta.tail d.log.manifest d.log.prepares
  pub cas_is : d.log.greatest_cas ≡ held.meta.cas
  pub length_is : d.log.length ≡ held.meta.length

-- bytes are those of the store of a chain's place that holds a pair
pub record HoldsPair (chain : Chain) (place : ℕ) (d : Pair Content ℕ) (image : List ℕ) : Type 0 where
  pub held : Held
  pub is_store : IsStore held d.layout image
  pub pair : IsPair held d.layout d
  pub chain_own : held.meta.chain ≡ chain
  pub place_own : held.meta.place ≡ place

-- bytes are those of a copy's store that holds a pair which the copy's disk may hold
abbrev pub HoldsOf : Copy Content ℕ → List ℕ → Type 0
HoldsOf copy image = (d : Pair Content ℕ) × MayHold copy.disk copy.torn d × HoldsPair copy.chain copy.place d image
