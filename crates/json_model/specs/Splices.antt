-- A change at the end of a trail is a change of the bytes there alone.
use Rattle.std.specs.Prelude.{◌≡◌, ℕ, List, [], ◌∷◌, ◌++◌, Some}
use Rattle.json_model.specs.declared.kinds.Shape.{Shape}
use Rattle.json_model.specs.Spelled.{Tree, group, Parts, text}
use Rattle.json_model.specs.Follow.{child}

-- a trail of part numbers leads from a tree to this one
pub data Reaches : List ℕ → Tree → Tree → Type 0 where
  here : (t : Tree) → Reaches [] t t
  there : (k : ℕ) (ks : List ℕ) (shape : Shape) (ps : Parts) (u t : Tree) → child ps k ≡ Some u → Reaches ks u t → Reaches (k ∷ ks) (group shape ps) t

-- what stands before and behind a value in a text, whatever the value becomes
pub record Around (change : (Tree → Tree) → List ℕ) (t : Tree) : Type 0 where
  pub front : List ℕ
  pub back : List ℕ
  pub spliced : (f : Tree → Tree) → change f ≡ front ++ (text (f t) ++ back)
