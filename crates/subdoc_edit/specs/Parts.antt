-- What is told of the elements of an array.
use Rattle.std.specs.Prelude.{◌≡◌, ℕ, nat_eq, List, Bool, Some}
use Rattle.std.specs.List.{list_all, list_any}
use Rattle.std.specs.Cmp.Lexicographic.{pointwise}
use Rattle.json_model.specs.Spelled.{Tree, text}
use Rattle.json_model.specs.Edit.{array_elements, is_leaf}
use Rattle.json_walk.specs.Places.{IsAt}

-- whether none of the elements of the array at this place holds others
abbrev pub TellsLeaves : List ℕ → ℕ → Bool → Type 0
TellsLeaves bytes at answer =
    (t : Tree) (trees : List Tree) → IsAt bytes at t → array_elements t ≡ Some trees → answer ≡ list_all is_leaf trees

-- whether one of them has this text
abbrev pub TellsText : List ℕ → ℕ → List ℕ → Bool → Type 0
TellsText bytes at wanted answer =
    (t : Tree) (trees : List Tree) → IsAt bytes at t → array_elements t ≡ Some trees → answer ≡ list_any (λ u. pointwise nat_eq (text u) wanted) trees
