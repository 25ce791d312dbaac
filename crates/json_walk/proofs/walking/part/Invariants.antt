use Rattle.std.proofs.Common.{◌≡◌, ◌+◌, length}
use Rattle.std.specs.Prelude.{IfSome}
use Rattle.json_model.specs.Spelled.{Parts}
use Rattle.json_walk.specs.Places.{ArePartsAt}
use Rattle.json_walk.specs.Telling.{LiesWithin, parts_from, told}
use Rattle.json_walk.proofs.walking.part.Given as goal

-- the next part is the one of as many as were passed
abbrev pub invariant-loop-passed : goal.invariant-loop-passed
invariant-loop-passed l = record {
  within : IfSome l.next (λ p. LiesWithin (l.at + 1) (length l.text) p);
  found : (ps : Parts) → ArePartsAt l.text (l.at + 1) l.shape ps → l.next ≡ told (parts_from l._passed (l.at + 1) ps);
}
