-- The value that comes with an edit, as it was read.
use Rattle.std.specs.Prelude.{◌≡◌, ℕ, ◌-◌, ◌<◌, ◌≤◌, List, [], length, take, drop, ◌⊎◌, ◌∷◌, Bool, false, nat_lt, ◌&&◌, ℤ, Result, Ok, Err}
use Rattle.json_model.specs.declared.TheConstants.{MOST_DEEP}
use Rattle.doc_model.specs.declared.status.Refused.{Refused}
use Rattle.json_model.specs.declared.kinds.Kind.{Kind}
use Rattle.json_model.specs.declared.kinds.Shape.TheVariants as shapes
use Rattle.json_model.specs.declared.asked.Edit.{Edit}
use Rattle.json_model.specs.Grammar.{IsLeaf}
use Rattle.json_model.specs.Spelled.{Tree, Parts, text, parts_text, depth, parts_depth, Fits, PartsFit}
use Rattle.json_model.specs.Moves.{led, ended}
use Rattle.json_model.specs.Edit.{Asked, dict_add, dict_upsert, delete, replace, push_last, push_first, array_insert, add_unique, counter}
use Rattle.json_model.specs.Values.{Gives, GivesTree, GivesParts, GivesLeaf, GivesDelta, IsDelta}
use Rattle.subdoc_edit.specs.Telling.{Told}
use Rattle.subdoc_edit.specs.declared.values.Given.{Given}

-- the bytes of a value that are to be written
abbrev pub given_bytes : List ℕ → Given → List ℕ
given_bytes value g = take (g.to - g.from) (drop g.from value)

-- they stand in the value, in order
pub record IsCutOut (value : List ℕ) (g : Given) : Type 0 where
  pub ordered : g.from ≤ g.to
  pub within : g.to ≤ length value

-- a value was read as this tree: its bytes and its depth, or that it nests too deep
abbrev pub IsTree : List ℕ → Given → Tree → Type 0
IsTree value g t =
    (Fits t × IsCutOut value g × (text t ≡ given_bytes value g) × (depth t ≡ g.depth) × (g.depth ≤ MOST_DEEP))
    ⊎ ((MOST_DEEP < depth t) × (MOST_DEEP < g.depth))

-- a value was read as these elements, without blanks at both ends
abbrev pub IsParts : List ℕ → Given → Parts → Type 0
IsParts value g ps =
    PartsFit shapes.Array ps × IsCutOut value g × (parts_text ps ≡ given_bytes value g) × (parts_depth ps ≡ g.depth)
    × (g.depth ≤ MOST_DEEP) × (led [] ps ≡ ps) × (ended [] ps ≡ ps)

-- a value was read as this leaf
abbrev pub IsOneLeaf : List ℕ → Given → Kind → List ℕ → Type 0
IsOneLeaf value g kind s = IsLeaf kind s × IsCutOut value g × (s ≡ given_bytes value g) × (g.depth ≡ 0)

-- what was read is what the edit is given
abbrev pub Describes : List ℕ → Given → Asked → Type 0
Describes value g (dict_add t) = IsTree value g t
Describes value g (dict_upsert t) = IsTree value g t
Describes value g delete = Unit {0}
Describes value g (replace t) = IsTree value g t
Describes value g (push_last ps) = IsParts value g ps
Describes value g (push_first ps) = IsParts value g ps
Describes value g (array_insert ps) = IsParts value g ps
Describes value g (add_unique kind s) = IsOneLeaf value g kind s
Describes value g (counter delta) = delta ≡ g.delta

-- a value is given to an edit, and this was read of it
abbrev pub IsGiven : Edit → List ℕ → Given → Type 0
IsGiven edit value g = (asked : Asked) × Gives edit value (Ok asked) × Describes value g asked

-- ---- each kind of value

-- what is told of a value that is to be one JSON text
abbrev pub ReadsTree : List ℕ → Result Given Refused → Type 0
ReadsTree value = Told
    (λ g. (t : Tree) × IsTree value g t × ((asked : Tree → Asked) → GivesTree asked value (Ok (asked t))))
    (λ s. (asked : Tree → Asked) → GivesTree asked value (Err s))

-- of one that is to be elements
abbrev pub ReadsParts : List ℕ → Result Given Refused → Type 0
ReadsParts value = Told
    (λ g. (ps : Parts) × IsParts value g ps × ((asked : Parts → Asked) → GivesParts asked value (Ok (asked ps))))
    (λ s. (asked : Parts → Asked) → GivesParts asked value (Err s))

-- of one that is to be a leaf
abbrev pub ReadsLeaf : List ℕ → Result Given Refused → Type 0
ReadsLeaf value = Told
    (λ g. (kind : Kind) × (s : List ℕ) × IsOneLeaf value g kind s × ((asked : Kind → List ℕ → Asked) → GivesLeaf asked value (Ok (asked kind s))))
    (λ s. (asked : Kind → List ℕ → Asked) → GivesLeaf asked value (Err s))

-- of one that is to be a delta
abbrev pub ReadsDelta : List ℕ → Result Given Refused → Type 0
ReadsDelta value = Told (λ g. GivesDelta value (Ok (counter g.delta))) (λ s. GivesDelta value (Err s))

-- bytes are no delta
abbrev pub IsNoDelta : List ℕ → Type 0
IsNoDelta value = (delta : ℤ) → IsDelta delta value → ⊥

-- whether a digit other than 0 is first
abbrev pub begins_with_digit : List ℕ → Bool
begins_with_digit [] = false
begins_with_digit (x ∷ xs) = nat_lt 0x30 x && nat_lt x 0x3a
