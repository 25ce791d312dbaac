-- What a disk in memory shows.
use Rattle.std.specs.Prelude.{ℕ, List}
use Rattle.magma_disk.specs.Device.{Device}
use Rattle.magma_disk.specs.Plan.{Plan}
use Rattle.magma_disk.specs.Counting.{Counts}

-- its states, the newest first; the faults that are planned; what it counts; and how many calls found no memory
pub record Memory : Type 0 where
  pub states : List Device
  pub plan : Plan
  pub counts : Counts
  pub refused : ℕ
