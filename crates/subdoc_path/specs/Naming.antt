-- Where the value stands that one part of a path names.
use Rattle.std.specs.Prelude.{◌≡◌, ℕ, ◌+◌, List, Option, Some, None}
use Rattle.json_model.specs.declared.asked.Part.{Part}
use Rattle.json_model.specs.Spelled.{Tree, leaf, empty, group, Parts}
use Rattle.json_model.specs.Follow.{asks, Names}
use Rattle.json_spell.specs.Nodes.{kind_of}
use Rattle.json_walk.specs.Places.{IsAt}
use Rattle.json_walk.specs.Telling.{tree_kind, part_at, parts_from}

-- of parts that begin at this place: the place of the one that is named, or that none is
abbrev pub FindsIn : Part → ℕ → Parts → Option ℕ → Type 0
FindsIn p from ps None = (k : ℕ) → Names p ps k → ⊥
FindsIn p from ps (Some place) =
    (k : ℕ) × (at : ℕ) × (left : Parts) × Names p ps k × (parts_from k from ps ≡ Some (at, left)) × (place ≡ (part_at at left).value)

-- of a tree that stands at this place
abbrev pub Finds : Part → ℕ → Tree → Option ℕ → Type 0
Finds p at (leaf kind s) found = found ≡ None
Finds p at (empty shape gap) found = found ≡ None
Finds p at (group shape ps) found = FindsIn p (at + 1) ps found

-- a value of the kind that the part asks for stands at this place
abbrev pub IsAskedAt : List ℕ → ℕ → Part → Type 0
IsAskedAt bytes at p = (t : Tree) × IsAt bytes at t × (tree_kind t ≡ kind_of (asks p))

-- this is found of each such value
abbrev pub FindsAt : List ℕ → ℕ → Part → Option ℕ → Type 0
FindsAt bytes at p found = (t : Tree) → IsAt bytes at t → tree_kind t ≡ kind_of (asks p) → Finds p at t found
