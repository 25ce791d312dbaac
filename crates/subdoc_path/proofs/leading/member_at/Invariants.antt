use Rattle.std.proofs.Common.{◌≡◌, ◌+◌, ◌-◌, length}
use Rattle.json_model.specs.declared.asked.Part.TheVariants as parts
use Rattle.json_model.specs.Follow.{asks}
use Rattle.json_model.specs.Spelled.{Tree}
use Rattle.json_spell.specs.Nodes.{kind_of}
use Rattle.json_walk.specs.Places.{IsAt}
use Rattle.json_walk.specs.Telling.{tree_kind, LiesWithin}
use Rattle.subdoc_path.proofs.Naming.{Going}
use Rattle.subdoc_path.proofs.leading.member_at.Given as goal

abbrev pub invariant-loop-member : goal.invariant-loop-member
invariant-loop-member l = record {
  within : LiesWithin (l.at + 1) (length l.text) l.member;
  going : (t : Tree) → IsAt l.text l.at t → tree_kind t ≡ kind_of (asks (parts.Member l.name)) → Going l.text (parts.Member l.name) l.at t l.member;
}

abbrev pub decreases-loop-member : goal.decreases-loop-member
decreases-loop-member l = length l.text - l.member.value
