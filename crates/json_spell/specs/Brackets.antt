-- The brackets that are open, as bits.
use Rattle.std.specs.Prelude.{ℕ, zero, suc, ◌/◌, ◌%◌, ◌==◌, List, [], ◌∷◌, Bool, true, false}
use Rattle.json_model.specs.declared.kinds.Shape.{Shape}
use Rattle.json_model.specs.declared.kinds.Shape.TheVariants as shapes

-- what a bit tells
abbrev pub bit_shape : Bool → Shape
bit_shape true = shapes.Object
bit_shape false = shapes.Array

-- so many brackets, innermost first: a bit is 1 at an object
abbrev pub open_shapes : ℕ → ℕ → List Shape
open_shapes zero objects = []
open_shapes (suc count) objects = bit_shape (objects % 2 == 1) ∷ open_shapes count (objects / 2)
