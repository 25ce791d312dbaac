-- The spelled tree of a JSON text: each leaf keeps its text, each gap its blanks.
use Rattle.std.specs.Prelude.{◌≡◌, ℕ, suc, ◌+◌, ◌≤◌, max, List, [], ◌∷◌, ◌++◌}
use Rattle.json_model.specs.declared.kinds.Kind.{Kind}
use Rattle.json_model.specs.declared.kinds.Shape.{Shape}
use Rattle.json_model.specs.declared.kinds.Shape.TheVariants as shapes
use Rattle.json_model.specs.Grammar.{AreBlanks, IsString, IsLeaf}

-- What stands before the value of a part: of an element blanks; of a member blanks, its key, blanks, a colon, blanks.
pub data Head : Type 0 where
  plain : List ℕ → Head
  keyed : List ℕ → List ℕ → List ℕ → List ℕ → Head

-- A value: a leaf, an empty object or array with the blanks in it, or one of parts. A part is its head, its value and
-- the blanks behind that; parts are parted by commas.
mutual
  pub data Tree : Type 0 where
    leaf : Kind → List ℕ → Tree
    empty : Shape → List ℕ → Tree
    group : Shape → Parts → Tree

  pub data Parts : Type 0 where
    last : Head → Tree → List ℕ → Parts
    more : Head → Tree → List ℕ → Parts → Parts

-- a whole text: a value with the blanks before and behind it
pub record Document : Type 0 where
  pub before : List ℕ
  pub tree : Tree
  pub after : List ℕ

-- ---- the text

-- the bracket at the front of an object or an array
abbrev pub opening : Shape → ℕ
opening shapes.Object = 0x7b
opening shapes.Array = 0x5b

-- the bracket at its end
abbrev pub closing : Shape → ℕ
closing shapes.Object = 0x7d
closing shapes.Array = 0x5d

-- the bytes before the value of a part
abbrev pub head_text : Head → List ℕ
head_text (plain gap) = gap
head_text (keyed gap key behind before) = gap ++ (key ++ (behind ++ 0x3a ∷ before))

-- the bytes of a tree, and of parts
abbrev mutual
  pub text : Tree → List ℕ
  text (leaf kind s) = s
  text (empty shape gap) = opening shape ∷ (gap ++ closing shape ∷ [])
  text (group shape parts) = opening shape ∷ (parts_text parts ++ closing shape ∷ [])

  pub parts_text : Parts → List ℕ
  parts_text (last head tree gap) = head_text head ++ (text tree ++ gap)
  parts_text (more head tree gap parts) = head_text head ++ (text tree ++ (gap ++ 0x2c ∷ parts_text parts))

-- the bytes of a whole text
abbrev pub document_text : Document → List ℕ
document_text d = d.before ++ (text d.tree ++ d.after)

-- ---- which trees are JSON

-- a member has a key, an element has none (sections 4 and 5)
abbrev pub HeadFits : Shape → Head → Type 0
HeadFits shapes.Object (plain gap) = ⊥
HeadFits shapes.Object (keyed gap key behind before) = AreBlanks gap × IsString key × AreBlanks behind × AreBlanks before
HeadFits shapes.Array (plain gap) = AreBlanks gap
HeadFits shapes.Array (keyed gap key behind before) = ⊥

-- leaves, gaps and heads are as the grammar has them
abbrev mutual
  pub Fits : Tree → Type 0
  Fits (leaf kind s) = IsLeaf kind s
  Fits (empty shape gap) = AreBlanks gap
  Fits (group shape parts) = PartsFit shape parts

  pub PartsFit : Shape → Parts → Type 0
  PartsFit shape (last head tree gap) = HeadFits shape head × Fits tree × AreBlanks gap
  PartsFit shape (more head tree gap parts) = HeadFits shape head × Fits tree × AreBlanks gap × PartsFit shape parts

-- how deep objects and arrays nest
abbrev mutual
  pub depth : Tree → ℕ
  depth (leaf kind s) = 0
  depth (empty shape gap) = 1
  depth (group shape parts) = suc (parts_depth parts)

  pub parts_depth : Parts → ℕ
  parts_depth (last head tree gap) = depth tree
  parts_depth (more head tree gap parts) = max (depth tree) (parts_depth parts)

-- how many values a tree has, itself among them
abbrev mutual
  pub size : Tree → ℕ
  size (leaf kind s) = 1
  size (empty shape gap) = 1
  size (group shape parts) = suc (parts_size parts)

  pub parts_size : Parts → ℕ
  parts_size (last head tree gap) = size tree
  parts_size (more head tree gap parts) = size tree + parts_size parts

-- how many parts
abbrev pub count : Parts → ℕ
count (last head tree gap) = 1
count (more head tree gap parts) = suc (count parts)

-- bytes are the JSON text of this tree with these blanks round it, at most so deep
pub record IsText (most : ℕ) (d : Document) (bytes : List ℕ) : Type 0 where
  pub before : AreBlanks d.before
  pub tree : Fits d.tree
  pub after : AreBlanks d.after
  pub depth : depth d.tree ≤ most
  pub spelled : bytes ≡ document_text d
