use Rattle.std.proofs.Common.{◌≡◌, ◌+◌, ◌*◌, ◌≤◌, min, List, ◌∷◌, length, take, drop}
use Rattle.magma_disk.specs.Device.{Device}
use Rattle.magma_store.specs.Counting.{CountsStore}
use Rattle.magma_store.proofs.journal.read_bytes.Given as goal

abbrev pub invariant-loop-turn : goal.invariant-loop-turn
invariant-loop-turn g l =
    (g.D.Disk.states l.disk ≡ g.D.Disk.states l.fn.disk)
    × CountsStore ⊥ (g.D.Disk.counts l.fn.disk) (g.D.Disk.counts l.disk)
    × ((g.D.Disk.counts l.disk).reads ≤ (g.D.Disk.counts l.fn.disk).reads + l.turn)
    × (length l.bytes.items ≡ min l.count (l.turn * 1048576))
    × ((d : Device) (past : List Device) → g.D.Disk.states l.fn.disk ≡ d ∷ past → l.bytes.items ≡ take
    (length l.bytes.items) (drop l.at d.bytes))
