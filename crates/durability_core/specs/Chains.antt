-- The places at which the copies of a vbucket stand.
use Rattle.std.specs.Prelude.{◌≤◌, ℕ, ◌+◌, ◌/◌, is_some, Bool, false, List, [], ◌∷◌, length, IsTrue, Option, Some, None}
use Rattle.std.specs.List.{AllByRecursion}
use Rattle.durability_core.specs.declared.chain.Chain.{Chain}

-- more than half of so many
abbrev pub majority : ℕ → ℕ
majority n = n / 2 + 1

-- the places that have a name, in rising order, where the first of these names stands at a place
abbrev pub places_from : ℕ → List (Option (List ℕ)) → List ℕ
places_from at [] = []
places_from at (None ∷ names) = places_from (at + 1) names
places_from at (Some name ∷ names) = at ∷ places_from (at + 1) names

-- the places that a chain names, in rising order
abbrev pub named_places : Chain → List ℕ
named_places chain = places_from 0 chain.names

-- how many places a chain has, with a name or without
abbrev pub place_count : Chain → ℕ
place_count chain = length chain.names

-- a name of 1 to 255 bytes, or none
abbrev pub IsName : Option (List ℕ) → Type 0
IsName None = Unit {0}
IsName (Some name) = (1 ≤ length name) × (length name ≤ 255)

-- whether the first place has a name
abbrev pub begins_named : List (Option (List ℕ)) → Bool
begins_named [] = false
begins_named (name ∷ names) = is_some name

-- a chain of 1 to 4 places, of which the first has a name
pub record IsChain (chain : Chain) : Type 0 where
  pub some : 1 ≤ place_count chain
  pub few : place_count chain ≤ 4
  pub first : IsTrue (begins_named chain.names)
  pub names : AllByRecursion IsName chain.names
