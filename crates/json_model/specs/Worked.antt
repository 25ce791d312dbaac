-- Texts whose changes are worked out by hand.
use Rattle.std.specs.Prelude.{ℕ, List, [], ◌∷◌, codes}
use Rattle.json_model.specs.declared.kinds.Kind.TheVariants as kinds
use Rattle.json_model.specs.declared.kinds.Shape.TheVariants as shapes
use Rattle.json_model.specs.Spelled.{plain, keyed, Tree, leaf, empty, group, Parts, last, more}
use Rattle.json_model.specs.Edit.{element, member, nested}

-- the number of this text
abbrev pub number : List ℕ → Tree
number s = leaf kinds.Number s

-- the text `[ 1 ]`
abbrev pub one_element : Tree
one_element = group shapes.Array (last (plain (codes " ")) (number (codes "1")) (codes " "))

-- the text `[ 1 , 2 ]`
abbrev pub two_elements : Tree
two_elements = group shapes.Array (more (plain (codes " ")) (number (codes "1")) (codes " ") (last (plain (codes " ")) (number (codes "2")) (codes " ")))

-- the text `{ "a" : 1 , "b" : 2 }`
abbrev pub two_members : Tree
two_members =
    group shapes.Object
    (more (keyed (codes " ") (codes "\"a\"") (codes " ") (codes " ")) (number (codes "1")) (codes " ")
    (last (keyed (codes " ") (codes "\"b\"") (codes " ") (codes " ")) (number (codes "2")) (codes " ")))

-- the text `[ ]`
abbrev pub no_elements : Tree
no_elements = empty shapes.Array (codes " ")

-- the text `{ }`
abbrev pub no_members : Tree
no_members = empty shapes.Object (codes " ")

-- a new element `3`
abbrev pub third : Parts
third = element (number (codes "3"))

-- a new member `"c":3`
abbrev pub member_c : Parts
member_c = member (codes "c") (number (codes "3"))

-- a new member `"x":{"y":[ 1 ]}`
abbrev pub nested_member : Parts
nested_member = member (codes "x") (nested (codes "y" ∷ []) one_element)
