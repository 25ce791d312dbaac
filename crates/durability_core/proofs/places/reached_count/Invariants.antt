use Rattle.std.specs.Prelude.{map as list_map}
use Rattle.durability_core.specs.Tracking.{known_at}
use Rattle.durability_core.specs.Reaches.{known_of, has_reached}
use Rattle.durability_core.proofs.Counts.{CountedTo}
use Rattle.durability_core.proofs.places.reached_count.Given as goal

-- the places so far are counted
abbrev pub invariant-loop-place : goal.invariant-loop-place
invariant-loop-place l =
    CountedTo (has_reached (known_at (list_map known_of l.known)) l.on_disk l.position)
    l.chain.names l.count l.place
