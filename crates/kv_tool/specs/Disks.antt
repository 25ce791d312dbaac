-- What a disk that is a file or in memory tells.
use Rattle.std.specs.Prelude.{List, [], Option, Some, None}
use Rattle.magma_disk.specs.Counting.{Counts}
use Rattle.magma_disk.specs.Device.{Device}
use Rattle.magma_disk.specs.Plan.{Plan}
use Rattle.kv_tool.specs.declared.disks.AnyDisk.{AnyDisk}
use Rattle.kv_tool.specs.declared.disks.AnyDisk.TheVariants as disks

-- its states: those of a disk in memory, and none of a file
abbrev pub states_of : AnyDisk → List Device
states_of (disks.File disk) = []
states_of (disks.Memory disk) = disk.states

-- its planned faults: those of a disk in memory, and a file tells none
abbrev pub plan_of : AnyDisk → Option Plan
plan_of (disks.File disk) = None
plan_of (disks.Memory disk) = Some disk.plan

-- what it counts
abbrev pub counts_of : AnyDisk → Counts
counts_of (disks.File disk) = disk
counts_of (disks.Memory disk) = disk.counts
