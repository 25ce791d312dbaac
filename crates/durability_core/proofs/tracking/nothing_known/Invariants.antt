use Rattle.std.specs.Prelude.{replicate, map as list_map}
use Rattle.std.proofs.Common.{◌≡◌}
use Rattle.durability_core.specs.Ready.{unknown}
use Rattle.durability_core.specs.Reaches.{known_of}
use Rattle.durability_core.proofs.tracking.nothing_known.Given as goal

-- so many places are unknown
abbrev pub invariant-loop-place : goal.invariant-loop-place
invariant-loop-place l = list_map known_of l.known.items ≡ replicate l._place unknown
