use Rattle.std.proofs.Common.{map, length}
use Rattle.std.specs.Prelude.{◌↔◌}
use Rattle.kv_script.specs.Lines.{ArePlaces}
use Rattle.kv_script.specs.Reading.{texts, place_of}
use Rattle.kv_script.proofs.chains.are_places.Given as goal

-- the words stand for places where those that are left do
abbrev pub invariant-loop-left : goal.invariant-loop-left
invariant-loop-left l = ArePlaces (map place_of (texts l.left)) ↔ ArePlaces (map place_of (texts l.fn.words))

abbrev pub decreases-loop-left : goal.decreases-loop-left
decreases-loop-left l = length l.left
