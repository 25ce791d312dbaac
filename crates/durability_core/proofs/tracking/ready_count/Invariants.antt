use Rattle.std.specs.Prelude.{map as list_map}
use Rattle.durability_core.specs.Tracking.{is_ready_by}
use Rattle.durability_core.specs.Reaches.{known_of}
use Rattle.durability_core.proofs.Committed.{ReadyTo}
use Rattle.durability_core.proofs.tracking.ready_count.Given as goal

-- the prepares so far are ready
abbrev pub invariant-loop-count : goal.invariant-loop-count
invariant-loop-count l =
    ReadyTo (is_ready_by l.chain l.own (list_map known_of l.known)) l.waiting l.count
