-- A document's extended attributes as one JSON object.
use Rattle.std.specs.Prelude.{ℕ, List, [], ◌∷◌, ◌++◌}
use Rattle.json_model.specs.Edit.{key_text}
use Rattle.xattr_body.specs.Section.{Pair}

-- the member that an attribute is: its name as a key, and its text
abbrev pub member_text : Pair → List ℕ
member_text pair = key_text pair.0 ++ 0x3a ∷ pair.1

-- further members, each behind a comma
abbrev pub further_text : List Pair → List ℕ
further_text [] = []
further_text (pair ∷ more) = 0x2c ∷ (member_text pair ++ further_text more)

-- members with commas between
abbrev pub members_text : List Pair → List ℕ
members_text [] = []
members_text (pair ∷ more) = member_text pair ++ further_text more

-- the object whose members are the attributes, in their order
unfoldable pub object_text : List Pair → List ℕ
object_text pairs = 0x7b ∷ (members_text pairs ++ 0x7d ∷ [])
