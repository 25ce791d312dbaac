-- What putting items on disk comes to.
use Rattle.std.specs.Prelude.{◌≡◌, ◌⊎◌, ◌≤◌, ◌<◌, ◌+◌, ℕ, Bool, List, Result, Ok, Err}
use Rattle.doc_model.specs.declared.document.Item.{Item}
use Rattle.vb_log.specs.Content.{Content}
use Rattle.vb_log.specs.Flushing.{AreByPosition}
use Rattle.vb_log.specs.Held.{StandAtKeys}
use Rattle.magma_disk.specs.Device.{Device}
use Rattle.magma_disk.specs.Moments.{Throughout}
use Rattle.magma_store.specs.declared.fault.StoreFault.{StoreFault}
use Rattle.magma_store.specs.declared.fault.StoreFault.TheVariants as fault
use Rattle.magma_store.specs.declared.meta.Meta.{Meta}
use Rattle.magma_store.specs.Held.{Held}
use Rattle.magma_store.specs.Layout.{write_size, needed_for, free}
use Rattle.magma_store.specs.Store.{Shown, IsOpen, Either, IsBatch, written}
use Rattle.replica_core.specs.declared.copy.Role.TheVariants as roles
use Rattle.copy_model.specs.declared.outcome.VbFault.{VbFault}
use Rattle.copy_model.specs.declared.outcome.VbFault.TheVariants as told
use Rattle.vb_core.specs.Shown.{ShownVb}

-- ---- what is put on disk

-- a batch is that of what was changed of late
pub record IsBatchOf (recent : Content) (meta : Meta) (batch : List Item) : Type 0 where
  pub by : AreByPosition recent.items batch
  pub stand : StandAtKeys recent.items
  pub is : IsBatch recent.manifest batch meta

-- The batch was to be put over what a store holds: a crash leaves what it held, or what it was to hold.
pub record IsBegun {D : Type 0} (states : D → List Device) (is_anew : Bool) (recent : Content) (meta : Meta) (batch : List Item) (old new : Shown D) : Type 0 where
  pub of : IsBatchOf recent meta batch
  pub moments : (held : Held) → IsOpen states held old
      → Throughout (Either held old.layout (written is_anew recent.manifest batch meta held) (old.layout + write_size meta.tail batch)) (states old.disk) (states new.disk)

-- the batch is on disk
pub record IsPutDown {D : Type 0} (states : D → List Device) (is_anew : Bool) (recent : Content) (meta : Meta) (old new : Shown D) : Type 0 where
  pub batch : List Item
  pub begun : IsBegun states is_anew recent meta batch old new
  pub done : (held : Held) → IsOpen states held old → IsOpen states (written is_anew recent.manifest batch meta held) new
  pub layout : new.layout ≡ old.layout + write_size meta.tail batch
  pub room : needed_for old.layout (write_size meta.tail batch) ≤ free old.layout

-- there is no room for the batch, and nothing changed
pub record HasNoRoom {D : Type 0} (recent : Content) (meta : Meta) (old new : Shown D) (asked left : ℕ) : Type 0 where
  pub batch : List Item
  pub of : IsBatchOf recent meta batch
  pub same : new ≡ old
  pub asked_is : asked ≡ needed_for old.layout (write_size meta.tail batch)
  pub left_is : left ≡ free old.layout
  pub full : free old.layout < needed_for old.layout (write_size meta.tail batch)

-- the disk failed, which was asked for the batch only where there was room for it
pub record IsStopped {D : Type 0} (states : D → List Device) (is_anew : Bool) (recent : Content) (meta : Meta) (old new : Shown D) : Type 0 where
  pub batch : List Item
  pub begun : IsBegun states is_anew recent meta batch old new
  pub room : (needed_for old.layout (write_size meta.tail batch) ≤ free old.layout) ⊎ (states new.disk ≡ states old.disk)

-- what putting what was changed of late on disk comes to
abbrev pub PutsDown : {D : Type 0} → (D → List Device) → Bool → Content → Meta → Shown D → Shown D → Result (Unit {0}) StoreFault → Type 0
PutsDown states is_anew recent meta old new (Ok u) = IsPutDown states is_anew recent meta old new
PutsDown states is_anew recent meta old new (Err fault.DiskFault) = IsStopped states is_anew recent meta old new
PutsDown states is_anew recent meta old new (Err (fault.Full asked left)) = HasNoRoom recent meta old new asked left
PutsDown states is_anew recent meta old new (Err (fault.Damaged place found expected)) = ⊥
PutsDown states is_anew recent meta old new (Err (fault.Spent found)) = ⊥
PutsDown states is_anew recent meta old new (Err fault.OtherChain) = ⊥
PutsDown states is_anew recent meta old new (Err fault.NoMemory) = new ≡ old

-- a vbucket whose store has a fault: the copy is dead where its disk failed
abbrev pub stopped_at : {D : Type 0} → StoreFault → ShownVb D → ShownVb D
stopped_at fault.DiskFault vb = record vb { core = record vb.core { role = roles.Dead } }
stopped_at (fault.Full needed free) vb = vb
stopped_at (fault.Damaged place found expected) vb = vb
stopped_at (fault.Spent found) vb = vb
stopped_at fault.OtherChain vb = vb
stopped_at fault.NoMemory vb = vb

-- ---- what is told

-- the fault of a vbucket whose store has one
abbrev pub fault_told : StoreFault → VbFault
fault_told fault.DiskFault = told.DiskFault
fault_told (fault.Full needed free) = told.Full needed free
fault_told (fault.Damaged place found expected) = told.NoMemory
fault_told (fault.Spent found) = told.NoMemory
fault_told fault.OtherChain = told.NoMemory
fault_told fault.NoMemory = told.NoMemory

-- what a call tells that puts a log of so many entries on disk
abbrev pub put_told : ℕ → Result (Unit {0}) StoreFault → Result ℕ VbFault
put_told length (Ok u) = Ok length
put_told length (Err why) = Err (fault_told why)
