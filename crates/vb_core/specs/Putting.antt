-- What putting its log on disk does to a vbucket that is a copy.
use Rattle.std.specs.Prelude.{◌≡◌, ◌<◌, ◌^◌, ℕ, true, false, List, length, Result, Ok, Err}
use Rattle.kv_edge.specs.Edge.{Rose}
use Rattle.magma_disk.specs.Counting.{Counts}
use Rattle.magma_disk.specs.Device.{Device}
use Rattle.magma_store.specs.declared.fault.StoreFault.{StoreFault}
use Rattle.magma_store.specs.declared.fault.StoreFault.TheVariants as fault
use Rattle.magma_store.specs.declared.meta.Meta.{Meta}
use Rattle.vb_log.specs.Content.{Content}
use Rattle.vb_log.specs.Logs.{folds}
use Rattle.copy_model.specs.Copies.{Copy, Luck, lacks_memory}
use Rattle.copy_model.specs.Disk.{Put, Done, NoRoom, Failed, write_log}
use Rattle.copy_model.specs.Laying.{is_faulted}
use Rattle.replica_core.specs.declared.copy.CopyCore.{CopyCore}
use Rattle.vb_core.specs.Coming.{next_layout, Leaves, Rests}
use Rattle.vb_core.specs.Flat.{flat, tail_of}
use Rattle.vb_core.specs.Means.{Stands, Stopped}
use Rattle.vb_core.specs.Shown.{ShownVb}

-- what is put beside the items of a log that comes to a content, which a copy with these numbers has
pub record IsMetaOf (core : CopyCore) (content : Content) (meta : Meta) : Type 0 where
  pub chain_is : meta.chain ≡ core.chain
  pub place_is : meta.place ≡ core.place
  pub promise_is : meta.promise ≡ core.promise
  pub accepted_is : meta.accepted ≡ core.accepted
  pub incarnation_is : meta.incarnation ≡ core.incarnation
  pub length_is : meta.length ≡ content.length
  pub cas_is : meta.cas ≡ content.greatest_cas
  pub tail_is : meta.tail ≡ tail_of content
  pub short : length meta.tail < 2 ^ 32

-- a vbucket is what a write of its log makes of the copy: it was done; there is no room; it stopped; or memory was refused
abbrev pub IsPut : {D : Type 0} → (D → List Device) → Copy Content ℕ → ShownVb D → ShownVb D → Put (Copy Content ℕ) → Result (Unit {0}) StoreFault → Type 0
IsPut states copy old new put (Err fault.NoMemory) = Rests states old new
IsPut states copy old new (Done after) (Ok u) = Stands states new after × Leaves states copy after old new
IsPut states copy old new (NoRoom needed free) (Err (fault.Full asked left)) =
    (asked ≡ needed) × (left ≡ free) × Rests states old new
IsPut states copy old new (Failed after) (Err fault.DiskFault) =
    Stopped states new after × Leaves states copy after old new
IsPut states copy old new put result = ⊥

-- It goes by luck: where the disk failed it, the disk's count of faults rose.
pub record Puts {D : Type 0} (states : D → List Device) (counts : D → Counts) (copy : Copy Content ℕ) (old new : ShownVb D) (result : Result (Unit {0}) StoreFault) : Type 0 where
  pub luck : Luck ℕ
  pub goes : IsPut states copy old new (write_log folds (flat copy.chain) luck copy.accepted copy) result
  pub layout : luck.layout ≡ next_layout copy
  pub sufficed : lacks_memory luck.chance ≡ false
  pub cause : is_faulted luck.chance ≡ true → Rose (counts old.store.disk).faults (counts new.store.disk).faults

-- why a log isn't put on disk
abbrev pub IsPutFault : StoreFault → Type 0
IsPutFault fault.DiskFault = Unit {0}
IsPutFault (fault.Full needed free) = Unit {0}
IsPutFault (fault.Damaged place found expected) = ⊥
IsPutFault (fault.Spent found) = ⊥
IsPutFault fault.OtherChain = ⊥
IsPutFault fault.NoMemory = Unit {0}
