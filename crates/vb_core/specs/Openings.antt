-- What opening a vbucket comes to.
use Rattle.std.specs.Prelude.{◌≡◌, ◌⊎◌, ◌+◌, ◌<◌, ℕ, false, List, [], ◌∷◌, Result, Ok, Err}
use Rattle.durability_core.specs.declared.chain.Chain.{Chain}
use Rattle.magma_disk.specs.Device.{Device}
use Rattle.magma_store.specs.declared.fault.StoreFault.{StoreFault}
use Rattle.magma_store.specs.declared.fault.StoreFault.TheVariants as fault
use Rattle.magma_store.specs.Held.{Held, IsStore, IsUnused}
use Rattle.magma_store.specs.Layout.{made_size, sets_size}
use Rattle.magma_store.specs.Store.{CanBeOpened, IsRefused, LeavesOpening}
use Rattle.vb_log.specs.Content.{Content}
use Rattle.vb_log.specs.Contents.{IsWhole}
use Rattle.vb_log.specs.Logs.{folds}
use Rattle.copy_model.specs.Copies.{Pair, Copy}
use Rattle.copy_model.specs.Disk.{on_disk, pair_at, needed, free}
use Rattle.copy_model.specs.Events.{active_at}
use Rattle.copy_model.specs.Openings.{new_copy, copy_on, begun_anew, raised}
use Rattle.vb_core.specs.Coming.{next_layout}
use Rattle.vb_core.specs.Flat.{flat}
use Rattle.vb_core.specs.Means.{Stands}
use Rattle.vb_core.specs.Pairs.{IsPair, IsTail, HoldsOf}
use Rattle.vb_core.specs.Shown.{ShownVb}

-- ---- the term of an opening

-- A copy that is to be active from its opening on, at the term above the one that it accepted: its disk doesn't have that yet.
abbrev pub begun : Copy Content ℕ → Copy Content ℕ
begun c = active_at folds (c.accepted + 4) (record c { promise = c.accepted + 4 })

-- a copy that has put its term and its log on disk
abbrev pub put_on_disk : Copy Content ℕ → Copy Content ℕ
put_on_disk c = on_disk (pair_at c.accepted (next_layout c) c) c

-- ---- the copy on a device

-- a store holds a whole content, and its tail is empty or tells it
pub record IsSound (held : Held) (d : Pair Content ℕ) : Type 0 where
  pub whole : IsWhole d.log
  pub told : (held.meta.tail ≡ []) ⊎ IsTail held.meta.tail d.log.manifest d.log.prepares

-- all of a copy's log and its accepted term are on its disk
pub record IsAllOnDisk (copy : Copy Content ℕ) : Type 0 where
  pub accepted : copy.disk.accepted ≡ copy.accepted
  pub log : copy.disk.log ≡ copy.log

-- bytes are those of a copy's store, on which a copy begins with the log that is there
pub record HoldsSound (copy : Copy Content ℕ) (image : List ℕ) : Type 0 where
  pub held : Held
  pub is_store : IsStore held copy.disk.layout image
  pub pair : IsPair held copy.disk.layout copy.disk
  pub chain_own : held.meta.chain ≡ copy.chain
  pub place_own : held.meta.place ≡ copy.place
  pub sound : IsSound held copy.disk

-- A copy begins on what a store holds: with the log that is there; or without entries, where that isn't whole.
abbrev pub BeginsWith : Held → Chain → ℕ → ℕ → Pair Content ℕ → Copy Content ℕ → Type 0
BeginsWith held chain place number d c =
    (IsSound held d × (c ≡ copy_on chain place number false (raised (d.layout + sets_size) d)))
    ⊎ ((IsSound held d → ⊥)
    × (c ≡ begun_anew folds (copy_on chain place number false (raised (d.layout + sets_size) d))))

-- A copy begins on a device with these bytes: a new one, where no store is there, or on the pair that the store holds.
abbrev pub BeginsOn : List ℕ → Chain → ℕ → ℕ → Copy Content ℕ → Type 0
BeginsOn bytes chain place number c =
    (IsUnused bytes × (c ≡ new_copy folds chain place number (made_size chain)))
    ⊎ ((held : Held) × (d : Pair Content ℕ) × CanBeOpened bytes chain place held d.layout × IsPair held d.layout d
    × BeginsWith held chain place number d c)

-- ---- what an opening comes to

-- an opened vbucket is the copy on the device, active at its term
abbrev pub IsOpened : {D : Type 0} → (D → List Device) → List ℕ → Chain → ℕ → ℕ → ShownVb D → Type 0
IsOpened states bytes chain place number vb =
    (c : Copy Content ℕ) × BeginsOn bytes chain place number c × Stands states vb (put_on_disk (begun c))

-- there is no room for the term of a copy that begins on a device
pub record HasNoRoom (bytes : List ℕ) (chain : Chain) (place number asked left : ℕ) : Type 0 where
  pub copy : Copy Content ℕ
  pub begins : BeginsOn bytes chain place number copy
  pub asked_is : asked ≡ needed folds (flat chain) (begun copy)
  pub left_is : left ≡ free (flat chain) (begun copy)
  pub full : left < asked

-- What a crash at any moment of an opening leaves: what it may leave of the store's opening, or a pair of the copy that was to
-- be active.
abbrev pub LeavesBeginning : List Device → Chain → ℕ → ℕ → List ℕ → Type 0
LeavesBeginning [] chain place number image = Unit {0}
LeavesBeginning (d ∷ past) chain place number image =
    LeavesOpening (d ∷ past) chain place image
    ⊎ ((c : Copy Content ℕ) × BeginsOn d.bytes chain place number c
    × (HoldsOf (begun c) image ⊎ HoldsOf (put_on_disk (begun c)) image))

-- What a crash at any moment of an opening leaves that is refused so: a pair of the copy that was to be active only where the
-- disk failed.
abbrev pub LeavesRefused : StoreFault → List Device → Chain → ℕ → ℕ → List ℕ → Type 0
LeavesRefused fault.DiskFault states chain place number image = LeavesBeginning states chain place number image
LeavesRefused why states chain place number image = LeavesOpening states chain place image

-- what an opening comes to, of a disk that has these states as it begins
abbrev pub OpensVb : {D : Type 0} → (D → List Device) → List Device → Chain → ℕ → ℕ → Result (ShownVb D) StoreFault → Type 0
OpensVb states [] chain place number result = Unit {0}
OpensVb states (d ∷ past) chain place number (Ok vb) = IsOpened states d.bytes chain place number vb
OpensVb states (d ∷ past) chain place number (Err (fault.Full asked left)) =
    HasNoRoom d.bytes chain place number asked left
OpensVb states (d ∷ past) chain place number (Err why) = IsRefused d.bytes chain place why
