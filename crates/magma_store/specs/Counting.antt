-- What a store's calls count, and why reading one stops.
use Rattle.std.specs.Prelude.{◌≡◌}
use Rattle.kv_edge.specs.Edge.{Rose}
use Rattle.magma_disk.specs.Counting.{Counts, Climbs}
use Rattle.magma_store.specs.declared.fault.StoreFault.{StoreFault}
use Rattle.magma_store.specs.declared.fault.StoreFault.TheVariants as fault

-- The counts of a call of a store: faults rose where it answers so, and no fault was planned.
pub record CountsStore (failed : Type 0) (old new : Counts) : Type 0 where
  pub faults : Climbs old.faults new.faults
  pub cause : failed → Rose old.faults new.faults
  pub reads : Climbs old.reads new.reads
  pub plans : new.plans ≡ old.plans

-- the disk failed, the bytes break the layout, or memory was refused
abbrev pub IsReadFault : StoreFault → Type 0
IsReadFault fault.DiskFault = Unit {0}
IsReadFault (fault.Full needed free) = ⊥
IsReadFault (fault.Damaged place found expected) = Unit {0}
IsReadFault (fault.Spent found) = ⊥
IsReadFault fault.OtherChain = ⊥
IsReadFault fault.NoMemory = Unit {0}
