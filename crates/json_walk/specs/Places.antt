-- Where the values of a text and the parts of objects and arrays stand in it.
use Rattle.std.specs.Prelude.{◌≡◌, ℕ, List, [], ◌∷◌, ◌++◌, ◌⊎◌, length}
use Rattle.json_model.specs.declared.kinds.Shape.{Shape}
use Rattle.json_model.specs.Grammar.{IsBlank}
use Rattle.json_model.specs.Spelled.{Tree, Parts, text, parts_text, closing, Fits, PartsFit}

-- no value goes on with these bytes: they are none, or a blank, a comma or a closing bracket is first
abbrev pub Ends : List ℕ → Type 0
Ends [] = Unit {0}
Ends (x ∷ xs) = IsBlank x ⊎ (x ≡ 0x2c) ⊎ (x ≡ 0x7d) ⊎ (x ≡ 0x5d)

-- the text of this tree stands at this place
pub record IsAt (bytes : List ℕ) (at : ℕ) (t : Tree) : Type 0 where
  pub front : List ℕ
  pub back : List ℕ
  pub spelled : bytes ≡ front ++ (text t ++ back)
  pub at_is : length front ≡ at
  pub fits : Fits t
  pub ends : Ends back

-- the text of these parts of an object or an array stands at this place, with its closing bracket behind it
pub record ArePartsAt (bytes : List ℕ) (at : ℕ) (shape : Shape) (ps : Parts) : Type 0 where
  pub front : List ℕ
  pub back : List ℕ
  pub spelled : bytes ≡ front ++ (parts_text ps ++ closing shape ∷ back)
  pub at_is : length front ≡ at
  pub fits : PartsFit shape ps

-- Whatever one value of a text becomes, which stands at this place, the same bytes stand before and behind it.
pub record StaysRound (change : (Tree → Tree) → List ℕ) (at : ℕ) (t : Tree) : Type 0 where
  pub front : List ℕ
  pub back : List ℕ
  pub at_is : length front ≡ at
  pub spliced : (f : Tree → Tree) → change f ≡ front ++ (text (f t) ++ back)
