use Rattle.std.proofs.Common.{◌≡◌, ℕ, ◌+◌, ◌*◌, ◌≤◌, List, length}
use Rattle.json_model.specs.declared.kinds.Shape.{Shape}
use Rattle.json_model.specs.Spelled.{Parts, count}
use Rattle.json_spell.specs.declared.node.Node.{Node}
use Rattle.subdoc_edit.specs.GivenDepths.{LeadParts}
use Rattle.subdoc_edit.proofs.GivenDepths.{Goes}
use Rattle.subdoc_edit.proofs.depths.+depth_of.Given as goal

abbrev pub decreases-depth_of : goal.decreases-depth_of
decreases-depth_of l = 2 * length l.nodes.now

abbrev pub decreases-pass : goal.decreases-pass
decreases-pass l = 2 * length l.nodes.now + 1

abbrev pub invariant-pass-loop-done : goal.invariant-pass-loop-done
invariant-pass-loop-done l = record {
  shorter : length l.rest ≤ length l.nodes;
  goes : (at index : ℕ) (shape : Shape) (ps : Parts) (behind : List Node) → LeadParts l.nodes at index shape ps behind → l.count ≡ count ps
      → Goes at ps shape behind l._done l.deepest l.end l.rest;
}
