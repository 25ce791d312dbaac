-- What is done of a device's store once the device is synced and read.
use Rattle.std.specs.Prelude.{◌≡◌, ◌⊎◌, ℕ, ◌<◌, List, [], ◌∷◌, length, Some, Result, Ok, Err}
use Rattle.magma_disk.specs.Device.{Device}
use Rattle.magma_disk.specs.Moments.{Throughout}
use Rattle.durability_core.specs.declared.chain.Chain.{Chain}
use Rattle.magma_store.specs.declared.fault.StoreFault.{StoreFault}
use Rattle.magma_store.specs.declared.fault.StoreFault.TheVariants as fault
use Rattle.magma_store.specs.declared.kinds.TheConstants.{SPENT}
use Rattle.magma_store.specs.declared.meta.Meta.{Meta}
use Rattle.magma_store.specs.declared.opening.Opened.{Opened}
use Rattle.magma_store.specs.Held.{Held, first_held, IsStore, IsUnused}
use Rattle.magma_store.specs.Journal.{IsJournal, journal_bytes}
use Rattle.magma_store.specs.Layout.{LaysNumbers, LaysNew}
use Rattle.magma_store.specs.Loading.{Tells}
use Rattle.magma_store.specs.Store.{Shown, CanBeOpened, Either, raised, spent_number, IsMade, IsRaised, IsRefused}

-- what was opened, on a disk that has these states
abbrev pub shown_at : List Device → Opened → Shown (List Device)
shown_at now opened = record { disk = now; spots = opened.spots; meta = opened.meta; layout = opened.filled }

-- the bytes are those of a store, which was read so
pub record IsFound (bytes : List ℕ) (found : Opened) : Type 0 where
  pub records : List (List ℕ)
  pub tells : Tells records found.spots found.meta
  pub filled : found.filled ≡ length (journal_bytes records)
  pub journal : IsJournal records bytes

-- what a crash leaves of a device of which these bytes were read: its store, as it was or opened once more; or no store,
-- where none was, or one that was just made
abbrev pub LeavesOpened : List ℕ → Chain → ℕ → List ℕ → Type 0
LeavesOpened bytes chain place image =
    ((held : Held) × (layout : ℕ) × (after : ℕ) × CanBeOpened bytes chain place held layout
    × LaysNumbers layout after × Either held layout (raised held) after image)
    ⊎ (IsUnused bytes
    × (IsUnused image ⊎ ((after : ℕ) × LaysNew chain after × IsStore (first_held chain place) after image)))

-- what is answered: a store that was made, or opened once more, or why none is
abbrev pub Comes : List ℕ → Chain → ℕ → List Device → Result Opened StoreFault → Type 0
Comes bytes chain place now (Ok opened) =
    IsMade (λ h. h) bytes chain place (shown_at now opened) ⊎ IsRaised (λ h. h) bytes chain place (shown_at now opened)
Comes bytes chain place now (Err why) = IsRefused bytes chain place why

-- what is answered of a disk, of whose first state the bytes are read
abbrev pub ComesOf : List Device → Chain → ℕ → List Device → Result Opened StoreFault → Type 0
ComesOf [] chain place now result = Unit {0}
ComesOf (d ∷ past) chain place now result = Comes d.bytes chain place now result

-- from a synced device on: nothing was done, or a crash leaves as much at any moment
pub record Finishes (bytes : List ℕ) (chain : Chain) (place : ℕ) (mid now : List Device) (result : Result Opened StoreFault) : Type 0 where
  pub moments : (now ≡ mid) ⊎ Throughout (LeavesOpened bytes chain place) mid now
  pub comes : Comes bytes chain place now result

-- a store isn't to be opened: it is another's, or spent
abbrev pub IsOthers : Meta → Chain → ℕ → StoreFault → Type 0
IsOthers meta chain place fault.DiskFault = ⊥
IsOthers meta chain place (fault.Full needed free) = ⊥
IsOthers meta chain place (fault.Damaged at found expected) = ⊥
IsOthers meta chain place (fault.Spent found) =
    (meta.chain ≡ chain) × (meta.place ≡ place) × (spent_number meta ≡ Some found)
IsOthers meta chain place fault.OtherChain = (meta.chain ≡ chain) → (meta.place ≡ place) → ⊥
IsOthers meta chain place fault.NoMemory = ⊥

-- a store is to be opened
pub record MayOpen (meta : Meta) (chain : Chain) (place : ℕ) : Type 0 where
  pub chain_own : meta.chain ≡ chain
  pub place_own : meta.place ≡ place
  pub promise : meta.promise < SPENT
  pub incarnation : meta.incarnation < SPENT
