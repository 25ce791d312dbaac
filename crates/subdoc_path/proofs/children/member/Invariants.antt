use Rattle.std.proofs.Common.{◌≡◌, ℕ, ◌+◌, ◌-◌}
use Rattle.json_model.specs.declared.kinds.Shape.TheVariants as shapes
use Rattle.json_model.specs.Spelled.{Parts}
use Rattle.json_model.specs.Spelled.{parts_size}
use Rattle.subdoc_path.specs.Standing.{StandsParts}
use Rattle.subdoc_path.proofs.Walking.{Going}
use Rattle.subdoc_path.proofs.children.member.Given as goal

abbrev pub invariant-loop-next : goal.invariant-loop-next
invariant-loop-next l = (at : ℕ) (ps : Parts) → StandsParts l.text l.nodes at l.from shapes.Object ps → l.end ≡ l.from + parts_size ps → Going l.text l.nodes shapes.Object l.name l.from l.end ps l.next

abbrev pub decreases-loop-next : goal.decreases-loop-next
decreases-loop-next l = l.end - l.next
