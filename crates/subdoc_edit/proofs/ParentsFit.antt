-- What an edit makes of names is JSON: a new member, and objects round it, where the names are UTF-8.
use Rattle.std.proofs.Common.{ℕ, List, [], ◌∷◌, refl}
use Rattle.std.specs.Prelude.{IsUtf8}
use Rattle.std.specs.List.{AllByRecursion}
use Rattle.json_model.specs.declared.kinds.Shape.TheVariants as shapes
use Rattle.json_model.specs.Spelled.{Tree, Fits, PartsFit}
use Rattle.json_model.specs.Follow.{IsFirstCalled}
use Rattle.json_model.specs.Edit.{member, nested}
use Rattle.subdoc_edit.proofs.ParentsKeys.{key_is_string, key_stands_for}

-- a new member is found by its name
pub new_member_called : (name : List ℕ) (t : Tree) → IsUtf8 name → IsFirstCalled name (member name t) 0
new_member_called name t u = (key_stands_for name u, refl)

pub member_fits : (name : List ℕ) (t : Tree) → IsUtf8 name → Fits t → PartsFit shapes.Object (member name t)
member_fits name t u f = ((tt, key_is_string name u, tt, tt), f, tt)

pub nested_fits : (names : List (List ℕ)) (t : Tree) → AllByRecursion IsUtf8 names → Fits t → Fits (nested names t)
nested_fits [] t u f = f
nested_fits (name ∷ names) t u f = member_fits name (nested names t) u.0 (nested_fits names t u.1 f)
