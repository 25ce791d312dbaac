-- Where one part of a path leads.
use Rattle.std.specs.Prelude.{◌≡◌, ◌≢◌, ℕ, ◌+◌, List, ◌⊎◌, Some}
use Rattle.json_model.specs.declared.asked.Part.{Part}
use Rattle.json_model.specs.Spelled.{Tree, leaf, empty, group, Fits}
use Rattle.json_spell.specs.declared.node.Node.{Node}
use Rattle.json_spell.specs.declared.node.Span.{Span}
use Rattle.subdoc_path.specs.Standing.{Stands}
use Rattle.json_model.specs.Follow.{asks, Names, child, earlier}
use Rattle.subdoc_path.specs.declared.finding.Step.{Step}
use Rattle.subdoc_path.specs.declared.finding.Step.TheVariants as steps

-- What is told of one part at a tree whose values begin at this place in the list.
abbrev pub Steps : Part → Tree → ℕ → Step → Type 0
Steps p (leaf kind s) at to = to ≡ steps.Mismatch
Steps p (empty shape gap) at to = ((asks p ≢ shape) × (to ≡ steps.Mismatch)) ⊎ ((asks p ≡ shape) × (to ≡ steps.Missing))
Steps p (group shape parts) at to =
    ((asks p ≢ shape) × (to ≡ steps.Mismatch))
    ⊎ ((asks p ≡ shape) × ((k : ℕ) → Names p parts k → ⊥) × (to ≡ steps.Missing))
    ⊎ ((asks p ≡ shape) × (k : ℕ) × (t : Tree) × Names p parts k × (child parts k ≡ Some t) × (to ≡ steps.To (at + 1 + earlier parts k)))

-- this is told of one part at the value that stands at this place in the list
abbrev pub StepsAt : List ℕ → List Node → ℕ → Part → Step → Type 0
StepsAt bytes nodes index p to = (at : ℕ) (key : Span) (t : Tree) → Stands bytes nodes at index key t → Fits t → Steps p t index to
