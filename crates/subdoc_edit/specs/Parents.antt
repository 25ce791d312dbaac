-- The text of a new member under names, round its value.
use Rattle.std.specs.Prelude.{◌≡◌, ℕ, List, [], ◌∷◌, ◌++◌, Option, Some, None, Bool, true, false, ◌⊎◌}
use Rattle.json_model.specs.declared.asked.Part.{Part}
use Rattle.json_model.specs.Spelled.{Tree, text, parts_text}
use Rattle.json_model.specs.Edit.{key_text, member, nested, names_of}
use Rattle.subdoc_edit.specs.declared.parents.Around.{Around}

-- the bytes before and behind the value of a new member under these names; none where they are no names, or there are none
abbrev pub IsAround : List Part → Option Around → Type 0
IsAround absent None = (names_of absent ≡ None) ⊎ (absent ≡ [])
IsAround absent (Some a) =
    (name : List ℕ) × (names : List (List ℕ)) × (names_of absent ≡ Some (name ∷ names))
    × ((t : Tree) → parts_text (member name (nested names t)) ≡ a.before ++ (text t ++ a.behind))

-- the bytes before a value in objects of one member each, under these names
abbrev pub openers : List (List ℕ) → List ℕ
openers [] = []
openers (name ∷ names) = 0x7b ∷ (key_text name ++ 0x3a ∷ openers names)

-- the bytes behind such a value
abbrev pub closers : List (List ℕ) → List ℕ
closers [] = []
closers (name ∷ names) = 0x7d ∷ closers names

-- The keys of all parts were put behind what was there; or a part is no name.
abbrev pub PutsNames : List ℕ → List ℕ → List Part → Bool → Type 0
PutsNames old new parts true = (names : List (List ℕ)) × (names_of parts ≡ Some names) × (new ≡ old ++ openers names)
PutsNames old new parts false = names_of parts ≡ None
