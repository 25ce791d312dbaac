use Rattle.std.proofs.Common.{◌≡◌, ◌-◌, ◌≤◌, List, Some, length}
use Rattle.json_model.specs.Spelled.{Tree}
use Rattle.json_model.specs.Edit.{array_elements}
use Rattle.json_walk.specs.Places.{IsAt}
use Rattle.subdoc_edit.proofs.Rest.{Rest, leaves}
use Rattle.subdoc_edit.proofs.walking.are_leaves.Given as goal

-- the elements up to the one that ends here hold no others
abbrev pub invariant-loop-part : goal.invariant-loop-part
invariant-loop-part l = record {
  within : l.end ≤ length l.text;
  rest : (t : Tree) (trees : List Tree) → IsAt l.text l.at t → array_elements t ≡ Some trees → Rest leaves l.text trees l.end;
}

abbrev pub decreases-loop-part : goal.decreases-loop-part
decreases-loop-part l = length l.text - l.end
