-- What a disk counts.
use Rattle.std.specs.Prelude.{◌≡◌, ℕ, ◌+◌, ◌-◌, ◌^◌, ◌≤◌, max}
use Rattle.kv_edge.specs.Edge.{Rose}

-- failed calls, reads and plans
pub record Counts : Type 0 where
  pub faults : ℕ
  pub reads : ℕ
  pub plans : ℕ

-- a count didn't fall, and stands still at 2^64 - 1
pub record Climbs (old new : ℕ) : Type 0 where
  pub no_lower : old ≤ new
  pub no_higher : new ≤ max old (2 ^ 64 - 1)

-- a call's faults: they rose where it failed
pub record CountsFault (failed : Type 0) (old new : ℕ) : Type 0 where
  pub climbs : Climbs old new
  pub cause : failed → Rose old new

-- a read's counts: it is at most one read more
pub record CountsRead (failed : Type 0) (old new : Counts) : Type 0 where
  pub faults : CountsFault failed old.faults new.faults
  pub reads : Climbs old.reads new.reads
  pub one_read : new.reads ≤ old.reads + 1
  pub plans : new.plans ≡ old.plans

-- the counts of a write, a cut or a sync
pub record CountsCall (failed : Type 0) (old new : Counts) : Type 0 where
  pub faults : CountsFault failed old.faults new.faults
  pub reads : new.reads ≡ old.reads
  pub plans : new.plans ≡ old.plans

-- the counts as a fault is planned
pub record CountsPlan (old new : Counts) : Type 0 where
  pub faults : new.faults ≡ old.faults
  pub reads : new.reads ≡ old.reads
  pub plans : Climbs old.plans new.plans
