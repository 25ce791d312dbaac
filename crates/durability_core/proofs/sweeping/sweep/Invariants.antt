use Rattle.std.proofs.Common.{◌≡◌, ◌+◌, ◌≤◌, length, vec_len, vec_capacity}
use Rattle.durability_core.specs.Kept.{IsQueue}
use Rattle.durability_core.proofs.Swept.{Sweeps}
use Rattle.durability_core.proofs.sweeping.sweep.Given as goal

-- the sweep has come so far, and there is room for all that wait
abbrev pub invariant-loop-turn : goal.invariant-loop-turn
invariant-loop-turn l = record {
  queue : IsQueue l.keys l.prepares.items;
  sweep : Sweeps l.now l.initial.prepares.items l.prepares.items l.initial.settled.items l.settled.items l.earliest l._turn;
  room : vec_len l.settled + length l.prepares.items ≤ vec_capacity l.settled;
  capacity : vec_capacity l.settled ≡ vec_capacity l.initial.settled;
}
