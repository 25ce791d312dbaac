use Rattle.std.proofs.Common.{◌≡◌, ◌+◌, ◌-◌, ◌<◌, ◌≤◌, ℕ, length}
use Rattle.json_model.specs.Spelled.{Parts, group, count}
use Rattle.json_walk.specs.Places.{IsAt}
use Rattle.subdoc_edit.specs.Splicing.{value_in}
use Rattle.subdoc_edit.proofs.Meeting.{Left}
use Rattle.subdoc_edit.proofs.places.meet.Given as goal

-- the part that is looked for is this one or stands behind it
abbrev pub invariant-loop-part : goal.invariant-loop-part
invariant-loop-part l = record {
  within : l.part.value ≤ length l.text;
  left : (ps : Parts) (k : ℕ) → IsAt l.text l.whole (group l.shape ps) → k < count ps → l.at ≡ l.whole + 1 + value_in k ps → Left l.text l.shape l.whole ps k l.part l.before;
}

abbrev pub decreases-loop-part : goal.decreases-loop-part
decreases-loop-part l = length l.text - l.part.value
