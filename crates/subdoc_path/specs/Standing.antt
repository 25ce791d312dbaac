-- Where a tree and its parts stand: their text in the text, and their values in the list.
use Rattle.std.specs.Prelude.{◌≡◌, ℕ, ◌+◌, ◌<◌, List, ◌++◌, length, Option, Some, None}
use Rattle.json_spell.specs.declared.node.Node.{Node}
use Rattle.json_spell.specs.declared.node.Span.{Span}
use Rattle.json_model.specs.declared.kinds.Shape.{Shape}
use Rattle.json_model.specs.declared.kinds.Shape.TheVariants as shapes
use Rattle.json_model.specs.Spelled.{Tree, Parts, text, parts_text, parts_size, count, Fits, PartsFit}
use Rattle.json_spell.specs.Nodes.{tree_nodes, parts_nodes}
use Rattle.json_model.specs.Follow.{IsFirstCalled, child, earlier}

-- a tree whose text begins at `at`, whose values begin at `index`
pub record Stands (bytes : List ℕ) (nodes : List Node) (at index : ℕ) (key : Span) (t : Tree) : Type 0 where
  pub front : List ℕ
  pub back : List ℕ
  pub above : List Node
  pub below : List Node
  pub spelled : bytes ≡ front ++ (text t ++ back)
  pub at_is : length front ≡ at
  pub listed : nodes ≡ above ++ (tree_nodes at index key t ++ below)
  pub index_is : length above ≡ index

-- parts whose text begins at `at`, whose values begin at `index`
pub record StandsParts (bytes : List ℕ) (nodes : List Node) (at index : ℕ) (shape : Shape) (ps : Parts) : Type 0 where
  pub fits : PartsFit shape ps
  pub front : List ℕ
  pub back : List ℕ
  pub above : List Node
  pub below : List Node
  pub spelled : bytes ≡ front ++ (parts_text ps ++ back)
  pub at_is : length front ≡ at
  pub listed : nodes ≡ above ++ (parts_nodes at index ps ++ below)
  pub index_is : length above ≡ index

-- where the first part of this name is: its value's place in the list
abbrev pub Answers : List ℕ → ℕ → Parts → Option ℕ → Type 0
Answers name from ps None = (k : ℕ) → IsFirstCalled name ps k → ⊥
Answers name from ps (Some i) = (k : ℕ) × (t : Tree) × IsFirstCalled name ps k × (child ps k ≡ Some t) × (i ≡ from + earlier ps k)

-- a value stands at this place in the list
abbrev pub IsStanding : List ℕ → List Node → ℕ → Type 0
IsStanding bytes nodes index = (at : ℕ) × (key : Span) × (t : Tree) × Stands bytes nodes at index key t × Fits t

-- the values of members stand from one place in the list to another
abbrev pub AreMembers : List ℕ → List Node → ℕ → ℕ → Type 0
AreMembers bytes nodes from end = (at : ℕ) × (ps : Parts) × StandsParts bytes nodes at from shapes.Object ps × (end ≡ from + parts_size ps)

-- the answer is the first member of this name, of those whose values stand there
abbrev pub FindsMember : List ℕ → List Node → ℕ → ℕ → List ℕ → Option ℕ → Type 0
FindsMember bytes nodes from end name answer =
    (at : ℕ) (ps : Parts) → StandsParts bytes nodes at from shapes.Object ps → end ≡ from + parts_size ps → Answers name from ps answer

-- the values of more than so many parts stand from this place in the list on
abbrev pub AreElements : List Node → ℕ → ℕ → Type 0
AreElements nodes from number =
    (bytes : List ℕ) × (at : ℕ) × (shape : Shape) × (ps : Parts) × StandsParts bytes nodes at from shape ps × (number < count ps)

-- the value of the part of this number stands there
abbrev pub FindsElement : List Node → ℕ → ℕ → ℕ → Type 0
FindsElement nodes from number answer =
    (bytes : List ℕ) (at : ℕ) (shape : Shape) (ps : Parts) → StandsParts bytes nodes at from shape ps → number < count ps → answer ≡ from + earlier ps number
