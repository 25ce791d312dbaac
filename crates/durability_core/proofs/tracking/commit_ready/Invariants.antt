use Rattle.std.specs.Prelude.{map as list_map}
use Rattle.std.proofs.Common.{◌≡◌, ◌+◌, ◌≤◌, length, vec_len, vec_capacity}
use Rattle.durability_core.specs.Tracking.{is_ready_by}
use Rattle.durability_core.specs.Reaches.{known_of}
use Rattle.durability_core.proofs.Committed.{Commits}
use Rattle.durability_core.proofs.tracking.commit_ready.Given as goal

-- the prepares before those that wait are committed, and there is room for all that wait
abbrev pub invariant-loop-position : goal.invariant-loop-position
invariant-loop-position l = record {
  commits : Commits (is_ready_by l.chain l.own (list_map known_of l.known)) l.initial.waiting l.waiting l.initial.settled.items l.settled.items;
  room : vec_len l.settled + length l.waiting ≤ vec_capacity l.settled;
  capacity : vec_capacity l.settled ≡ vec_capacity l.initial.settled;
}

abbrev pub decreases-loop-position : goal.decreases-loop-position
decreases-loop-position l = length l.waiting
