-- Where the bytes of a value stand in a text.
use Rattle.std.specs.Prelude.{◌≡◌, ℕ, ◌-◌, ◌≤◌, List, ◌++◌, length, take, drop}
use Rattle.json_model.specs.declared.TheConstants.{MOST_DEEP}
use Rattle.json_model.specs.Spelled.{Tree, text, Document, IsText}
use Rattle.json_model.specs.Follow.{place}
use Rattle.json_model.specs.Moves.{at_trail}
use Rattle.json_model.specs.Splices.{Reaches}
use Rattle.json_spell.specs.declared.node.Node.{Node}
use Rattle.json_spell.specs.declared.node.Span.{Span}
use Rattle.json_spell.specs.Nodes.{document_nodes}

-- a value of the text stands at this place in the list
abbrev pub IsValueAt : List ℕ → List Node → ℕ → Type 0
IsValueAt bytes nodes index =
    (d : Document) × (trail : List ℕ) × (t : Tree) × IsText MOST_DEEP d bytes × (nodes ≡ document_nodes d) × Reaches trail d.tree t × (index ≡ place trail d.tree)

-- The bytes from one place to another are those of the value at the end of this trail, and whatever becomes of it, the
-- bytes before and behind stay.
pub record IsCut (bytes : List ℕ) (d : Document) (trail : List ℕ) (t : Tree) (span : Span) : Type 0 where
  pub ordered : span.from ≤ span.to
  pub within : span.to ≤ length bytes
  pub inside : take (span.to - span.from) (drop span.from bytes) ≡ text t
  pub spliced : (f : Tree → Tree)
      → d.before ++ (text (at_trail trail f d.tree) ++ d.after) ≡ take span.from bytes ++ (text (f t) ++ drop span.to bytes)

-- so are they of the value at this place in the list
abbrev pub CutsOut : List ℕ → ℕ → Span → Type 0
CutsOut bytes index span =
    (d : Document) (trail : List ℕ) (t : Tree) → IsText MOST_DEEP d bytes → Reaches trail d.tree t → index ≡ place trail d.tree → IsCut bytes d trail t span
