-- Where a path leads in a tree.
use Rattle.std.specs.Prelude.{◌≡◌, ◌≢◌, ℕ, zero, suc, ◌+◌, ◌<◌, List, [], ◌∷◌, ◌⊎◌, Option, Some, None, option_map, unwrap_or}
use Rattle.json_model.specs.declared.kinds.Shape.{Shape}
use Rattle.json_model.specs.declared.kinds.Shape.TheVariants as shapes
use Rattle.json_model.specs.declared.asked.Part.{Part}
use Rattle.json_model.specs.declared.asked.Part.TheVariants.{Member, At, Last}
use Rattle.json_model.specs.Spelled.{Head, plain, keyed, Tree, leaf, empty, group, Parts, last, more, size, count}
use Rattle.json_model.specs.Decoding.{StandsFor}

-- the head's key stands for these characters
abbrev pub IsCalled : List ℕ → Head → Type 0
IsCalled name (plain gap) = ⊥
IsCalled name (keyed gap key behind before) = StandsFor key name

-- the first part of this name is the one of this number
abbrev pub IsFirstCalled : List ℕ → Parts → ℕ → Type 0
IsFirstCalled name (last head tree gap) k = IsCalled name head × (k ≡ 0)
IsFirstCalled name (more head tree gap parts) k =
    (IsCalled name head × (k ≡ 0)) ⊎ ((IsCalled name head → ⊥) × (j : ℕ) × (k ≡ suc j) × IsFirstCalled name parts j)

-- a part of a path names the part of this number
abbrev pub Names : Part → Parts → ℕ → Type 0
Names (Member name) parts k = IsFirstCalled name parts k
Names (At n) parts k = (k ≡ n) × (n < count parts)
Names Last parts k = suc k ≡ count parts

-- a name asks for an object, an index for an array
abbrev pub asks : Part → Shape
asks (Member name) = shapes.Object
asks (At n) = shapes.Array
asks Last = shapes.Array

-- the value of the part of this number
abbrev pub child : Parts → ℕ → Option Tree
child (last head tree gap) zero = Some tree
child (last head tree gap) (suc k) = None
child (more head tree gap parts) zero = Some tree
child (more head tree gap parts) (suc k) = child parts k

-- What comes of a path. A trail is the numbers of the parts on the way to a value.
pub data Outcome : Type 0 where
  -- it leads to this value, by this trail
  reached : List ℕ → Tree → Outcome
  -- the value at the end of this trail has nothing that the first of these parts names; these are the parts from there on
  missing : List ℕ → Tree → List Part → Outcome
  -- the value behind so many parts is of another kind than the next part asks for
  mismatch : ℕ → Outcome

-- the same one level up, over the part of this number
abbrev pub over : ℕ → Outcome → Outcome
over k (reached trail tree) = reached (k ∷ trail) tree
over k (missing trail tree absent) = missing (k ∷ trail) tree absent
over k (mismatch d) = mismatch (suc d)

-- following parts in a tree has this outcome
abbrev pub Follows : List Part → Tree → Outcome → Type 0
Follows [] tree o = o ≡ reached [] tree
Follows (p ∷ ps) (leaf kind s) o = o ≡ mismatch 0
Follows (p ∷ ps) (empty shape gap) o = ((asks p ≢ shape) × (o ≡ mismatch 0)) ⊎ ((asks p ≡ shape) × (o ≡ missing [] (empty shape gap) (p ∷ ps)))
Follows (p ∷ ps) (group shape parts) o =
    ((asks p ≢ shape) × (o ≡ mismatch 0))
    ⊎ ((asks p ≡ shape) × ((k : ℕ) → Names p parts k → ⊥) × (o ≡ missing [] (group shape parts) (p ∷ ps)))
    ⊎ ((asks p ≡ shape) × (k : ℕ) × (tree : Tree) × (next : Outcome) × Names p parts k × (child parts k ≡ Some tree) × Follows ps tree next × (o ≡ over k next))

-- how many values stand before those of the part of this number
abbrev pub earlier : Parts → ℕ → ℕ
earlier (last head tree gap) k = 0
earlier (more head tree gap parts) zero = 0
earlier (more head tree gap parts) (suc k) = size tree + earlier parts k

-- how many values stand before the one at the end of a trail
abbrev pub place : List ℕ → Tree → ℕ
place [] tree = 0
place (k ∷ ks) (leaf kind s) = 0
place (k ∷ ks) (empty shape gap) = 0
place (k ∷ ks) (group shape parts) = suc (earlier parts k + unwrap_or (option_map (place ks) (child parts k)) 0)
