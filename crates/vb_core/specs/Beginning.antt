-- How a vbucket begins on what a store holds.
use Rattle.std.specs.Prelude.{◌≡◌, ◌⊎◌, ℕ, ◌+◌, ◌<◌, Bool, true, false, List, [], Option, Some, None, Result, Ok, Err, IfOk, IfSome, if◌then◌else◌}
use Rattle.std.specs.FinMap as map
use Rattle.manifest_rules.specs.Catalog.{Catalog}
use Rattle.manifest_rules.specs.Rules.{first_catalog}
use Rattle.replica_core.specs.declared.copy.CopyCore.{CopyCore}
use Rattle.replica_core.specs.declared.copy.Role.TheVariants as roles
use Rattle.magma_disk.specs.Device.{Device}
use Rattle.magma_disk.specs.Moments.{Throughout}
use Rattle.magma_store.specs.declared.fault.StoreFault.{StoreFault}
use Rattle.magma_store.specs.declared.fault.StoreFault.TheVariants as fault
use Rattle.magma_store.specs.declared.meta.Meta.{Meta}
use Rattle.magma_store.specs.Held.{Held}
use Rattle.magma_store.specs.Spots.{spots_size}
use Rattle.magma_store.specs.Store.{Shown, IsOpen}
use Rattle.magma_store.specs.Whole.{content_of}
use Rattle.vb_log.specs.declared.entry.Pending.{Pending}
use Rattle.vb_log.specs.Content.{Content, no_content}
use Rattle.vb_log.specs.Contents.{IsWhole}
use Rattle.vb_log.specs.Logs.{folds}
use Rattle.copy_model.specs.Copies.{Pair, Copy}
use Rattle.copy_model.specs.Disk.{needed, free}
use Rattle.vb_core.specs.Flat.{flat}
use Rattle.vb_core.specs.Means.{Stands}
use Rattle.vb_core.specs.Openings.{IsSound, begun, put_on_disk}
use Rattle.vb_core.specs.Pairs.{IsTail, IsNoTail, Tells, IsPair, HoldsOf}
use Rattle.vb_core.specs.Shown.{ShownVb}

-- ---- what a store holds

-- What was read of a tail: of the empty one the first manifest, and that nothing waits; of another what it has the bytes of, or
-- that it has the bytes of none.
abbrev pub TailRead : List ℕ → Option (Catalog × List Pending) → Type 0
TailRead tail (Some parts) = ((tail ≡ []) × (parts.0 ≡ first_catalog) × (parts.1 ≡ [])) ⊎ IsTail tail parts.0 parts.1
TailRead tail None = (tail ≡ [] → ⊥) × IsNoTail tail

-- a store holds this content
pub record IsFound (held : Held) (content : Content) : Type 0 where
  pub is : content ≡ content_of held content.manifest content.prepares
  pub told : ((held.meta.tail ≡ []) × (content.manifest ≡ first_catalog) × (content.prepares ≡ [])) ⊎ IsTail held.meta.tail content.manifest content.prepares

-- a store holds no whole content, and the log begins without entries
pub record IsBroken (held : Held) (content : Content) : Type 0 where
  pub none : content ≡ no_content
  pub manifest : Catalog
  pub prepares : List Pending
  pub tells : Tells held.meta.tail manifest prepares
  pub unsound : (d : Pair Content ℕ) → IsPair held d.layout d → IsSound held d → ⊥

-- a log begins so on what a store holds
abbrev pub BeginsFrom : Held → Content → Bool → Type 0
BeginsFrom held content true = IsBroken held content
BeginsFrom held content false = IsFound held content

-- all of a whole content but its items
pub record IsRestOf (content rest : Content) : Type 0 where
  pub whole : IsWhole content
  pub rest_is : rest ≡ record content { items = map.empty }

-- a log begins on what a store holds with a content of which this is all but the items
pub record BeginsWithout (held : Held) (rest : Content) (is_anew : Bool) : Type 0 where
  pub content : Content
  pub from : BeginsFrom held content is_anew
  pub rest_of : IsRestOf content rest

-- ---- what is in memory

-- the numbers of a copy that is active at the term of the next round
abbrev pub core_at : Meta → ℕ → CopyCore
core_at meta length = record {
  chain = meta.chain;
  place = meta.place;
  role = roles.Active;
  promise = meta.accepted + 4;
  accepted = meta.accepted + 4;
  length = length;
  whole = true;
  incarnation = meta.incarnation;
}

-- a vbucket before its term is on disk
abbrev pub vb_begun : {D : Type 0} → Shown D → ℕ → Bool → CopyCore → Content → ShownVb D
vb_begun store number is_anew core recent = record {
  store = store;
  core = core;
  number = number;
  recent = recent;
  showing = if is_anew then 0 else spots_size store.spots;
  is_anew = is_anew;
  seen = 0;
  inherited = core.length;
  unflushed_entries = 0;
  unflushed_bytes = 0;
}

-- A copy begins on an open store, with this content: what it has is the store's.
pub record BeginsIn {D : Type 0} (states : D → List Device) (store : Shown D) (number : ℕ) (content : Content) (is_anew : Bool) (c : Copy Content ℕ) : Type 0 where
  pub held : Held
  pub is_open : IsOpen states held store
  pub pair : IsPair held store.layout c.disk
  pub from : BeginsFrom held content is_anew
  pub chain_is : store.meta.chain ≡ c.chain
  pub place_is : store.meta.place ≡ c.place
  pub number_is : number ≡ c.number
  pub accepted_is : store.meta.accepted ≡ c.accepted
  pub incarnation_is : store.meta.incarnation ≡ c.incarnation
  pub log_is : content ≡ c.log
  pub anew_is : is_anew ≡ c.anew
  pub torn : c.torn ≡ None
  pub unseen : c.seen ≡ 0
  pub no_entries : c.unflushed_entries ≡ 0
  pub no_bytes : c.unflushed_bytes ≡ 0

-- ---- the term is put on disk

-- a crash leaves a pair of a copy, or of the one that has put its log on disk
abbrev pub LeavesTerm : Copy Content ℕ → List ℕ → Type 0
LeavesTerm copy image = HoldsOf copy image ⊎ HoldsOf (put_on_disk copy) image

-- a copy needs so many segments, and fewer are free
pub record LacksRoom (copy : Copy Content ℕ) (asked left : ℕ) : Type 0 where
  pub asked_is : asked ≡ needed folds (flat copy.chain) copy
  pub left_is : left ≡ free (flat copy.chain) copy
  pub full : left < asked

-- what putting an active copy's term on disk comes to, of a disk that had these states
abbrev pub PutsFirst : {D : Type 0} → (D → List Device) → List Device → Copy Content ℕ → Result (ShownVb D) StoreFault → Option D → Type 0
PutsFirst states before copy (Ok vb) back =
    Stands states vb (put_on_disk copy) × Throughout (LeavesTerm copy) before (states vb.store.disk)
PutsFirst states before copy (Err fault.DiskFault) (Some back) = Throughout (LeavesTerm copy) before (states back)
PutsFirst states before copy (Err (fault.Full asked left)) (Some back) = (states back ≡ before) × LacksRoom copy asked left
PutsFirst states before copy (Err fault.NoMemory) (Some back) = states back ≡ before
PutsFirst states before copy (Err why) back = ⊥

-- a disk that told no states tells none
abbrev pub StaysSilent : {D : Type 0} → (D → List Device) → List Device → Result (ShownVb D) StoreFault → Option D → Type 0
StaysSilent states before result back =
    before ≡ [] → IfOk result (λ vb. states vb.store.disk ≡ []) × IfSome back (λ disk. states disk ≡ [])

-- ---- on a store that was just opened

-- the store couldn't be read, and the disk has the states that it had
abbrev pub IsUnbegun : {D : Type 0} → (D → List Device) → List Device → Result (ShownVb D) StoreFault → Option D → Type 0
IsUnbegun states before (Err fault.DiskFault) (Some back) = states back ≡ before
IsUnbegun states before (Err fault.NoMemory) (Some back) = states back ≡ before
IsUnbegun states before result back = ⊥

-- a log began on the store, and the term of each copy that begins so was put on disk
pub record BeginsOnStore {D : Type 0} (states : D → List Device) (held : Held) (store : Shown D) (number : ℕ) (result : Result (ShownVb D) StoreFault) (back : Option D) : Type 0 where
  pub content : Content
  pub is_anew : Bool
  pub from : BeginsFrom held content is_anew
  pub whole : IsWhole content
  pub puts : (c : Copy Content ℕ) → BeginsIn states store number content is_anew c → PutsFirst states (states store.disk) (begun c) result back

abbrev pub OpensOn : {D : Type 0} → (D → List Device) → Held → Shown D → ℕ → Result (ShownVb D) StoreFault → Option D → Type 0
OpensOn states held store number result back =
    BeginsOnStore states held store number result back ⊎ IsUnbegun states (states store.disk) result back
