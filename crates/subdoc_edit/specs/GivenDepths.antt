-- What is told of a list of nodes: how deep the values at its front nest, and where they end.
use Rattle.std.specs.Prelude.{◌≡◌, ℕ, ◌+◌, ◌≤◌, List, [], ◌∷◌, ◌++◌, length}
use Rattle.json_model.specs.declared.TheConstants.{MOST_DEEP}
use Rattle.json_model.specs.declared.kinds.Shape.{Shape}
use Rattle.json_model.specs.Spelled.{Tree, Parts, last, more, head_text, text, depth, parts_depth, count, Fits, PartsFit}
use Rattle.json_spell.specs.declared.node.Node.{Node}
use Rattle.json_spell.specs.declared.node.Span.{Span}
use Rattle.json_spell.specs.Nodes.{tree_nodes, parts_nodes}

-- a tree's nodes stand at the front of the list, behind them these
pub record Leads (nodes : List Node) (at index : ℕ) (key : Span) (t : Tree) (behind : List Node) : Type 0 where
  pub listed : nodes ≡ tree_nodes at index key t ++ behind
  pub fits : Fits t
  pub shallow : depth t ≤ MOST_DEEP

-- the nodes of parts stand at the front of the list, behind them these
pub record LeadParts (nodes : List Node) (at index : ℕ) (shape : Shape) (ps : Parts) (behind : List Node) : Type 0 where
  pub listed : nodes ≡ parts_nodes at index ps ++ behind
  pub fits : PartsFit shape ps
  pub shallow : parts_depth ps ≤ MOST_DEEP

-- the place behind the last part's value, where the parts begin at this place
abbrev pub value_end : ℕ → Parts → ℕ
value_end at (last head tree gap) = at + (length (head_text head) + length (text tree))
value_end at (more head tree gap parts) = value_end (at + (length (head_text head) + (length (text tree) + (length gap + 1)))) parts

-- the place behind the first value of the list, 0 where there is none
abbrev pub first_end : List Node → ℕ
first_end [] = 0
first_end (node ∷ nodes) = node.to

-- the depth of the value at the front, and the nodes behind its own
abbrev pub IsDepth : List Node → ℕ → List Node → Type 0
IsDepth nodes told rest =
    (at index : ℕ) (key : Span) (t : Tree) (behind : List Node) → Leads nodes at index key t behind → (told ≡ depth t) × (rest ≡ behind)

-- the depth of the parts at the front, where the last one's value ends, and the nodes behind theirs
abbrev pub ArePassed : List Node → ℕ → ℕ → ℕ → List Node → Type 0
ArePassed nodes many told end rest =
    (at index : ℕ) (shape : Shape) (ps : Parts) (behind : List Node) → LeadParts nodes at index shape ps behind → many ≡ count ps
    → (told ≡ parts_depth ps) × (end ≡ value_end at ps) × (rest ≡ behind)
