use Rattle.std.proofs.Common.{◌-◌, ◌≤◌, length}
use Rattle.json_model.specs.Spelled.{Parts}
use Rattle.json_walk.specs.Places.{ArePartsAt}
use Rattle.json_walk.proofs.Further.{Going}
use Rattle.json_walk.proofs.walking.all_parts_from.Given as goal

-- so many parts were passed, the last of which ends here
abbrev pub invariant-loop-part : goal.invariant-loop-part
invariant-loop-part l = record {
  few : l.count ≤ l.end;
  low : l.from ≤ l.end;
  high : l.end ≤ length l.text;
  going : (ps : Parts) → ArePartsAt l.text l.from l.shape ps → Going l.text l.shape l.from ps l.count l.end;
}

abbrev pub decreases-loop-part : goal.decreases-loop-part
decreases-loop-part l = length l.text - l.end
