use Rattle.std.proofs.Common.{◌≡◌, ◌+◌, ◌-◌, length}
use Rattle.json_model.specs.declared.asked.Part.TheVariants as parts
use Rattle.json_model.specs.Follow.{asks}
use Rattle.json_model.specs.Spelled.{Tree}
use Rattle.json_spell.specs.Nodes.{kind_of}
use Rattle.json_walk.specs.Places.{IsAt}
use Rattle.json_walk.specs.Telling.{tree_kind, LiesWithin}
use Rattle.subdoc_path.proofs.Naming.{Going}
use Rattle.subdoc_path.proofs.leading.last_at.Given as goal

abbrev pub invariant-loop-next : goal.invariant-loop-next
invariant-loop-next l = record {
  within : LiesWithin (l.at + 1) (length l.text) l.element;
  going : (t : Tree) → IsAt l.text l.at t → tree_kind t ≡ kind_of (asks parts.Last) → Going l.text parts.Last l.at t l.element;
}

abbrev pub decreases-loop-next : goal.decreases-loop-next
decreases-loop-next l = length l.text - l.element.value
