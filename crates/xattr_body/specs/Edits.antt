-- What a name has among pairs, and what a change leaves.
use Rattle.std.specs.Prelude.{ℕ, List, [], ◌∷◌, Option, Some, None, if◌then◌else◌}
use Rattle.xattr_body.specs.Section.{Pair, same_name}

-- the text of the first pair of a name
abbrev pub value_of : List ℕ → List Pair → Option (List ℕ)
value_of name [] = None
value_of name (pair ∷ more) = if same_name pair.0 name then Some pair.1 else value_of name more

-- the pair of a name has this text, in its place; where the name has none, it is the last
abbrev pub with_pair : List ℕ → List ℕ → List Pair → List Pair
with_pair name value [] = (name, value) ∷ []
with_pair name value (pair ∷ more) = if same_name pair.0 name then (pair.0, value) ∷ more else pair ∷ with_pair name value more

-- the first pair of a name is taken away
abbrev pub without : List ℕ → List Pair → List Pair
without name [] = []
without name (pair ∷ more) = if same_name pair.0 name then more else pair ∷ without name more
