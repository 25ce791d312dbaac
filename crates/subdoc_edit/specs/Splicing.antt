-- Bytes put in place of others, and where new parts go.
use Rattle.std.specs.Prelude.{◌≡◌, ℕ, zero, suc, ◌+◌, ◌<◌, List, [], ◌∷◌, ◌++◌, length, Bool, true, false, Option, None, Some}
use Rattle.json_spell.specs.declared.node.Span.{Span}
use Rattle.json_model.specs.declared.TheConstants.{MOST_DEEP}
use Rattle.json_model.specs.declared.kinds.Shape.{Shape}
use Rattle.json_model.specs.declared.kinds.Shape.TheVariants as shapes
use Rattle.json_model.specs.Spelled.{Head, Tree, leaf, empty, group, Parts, last, more, text, head_text, parts_text, count, Document, IsText}
use Rattle.json_model.specs.Moves.{gap_before, led, ended, with_pushed, with_inserted, with_removed}
use Rattle.json_walk.specs.Places.{IsAt}
use Rattle.subdoc_edit.specs.declared.places.Gap.{Gap}
use Rattle.subdoc_edit.specs.declared.places.Met.{Met}

-- bytes are the old ones with these in place of those from one place up to another
pub record Spliced (old new these : List ℕ) (from to : ℕ) : Type 0 where
  pub front : List ℕ
  pub middle : List ℕ
  pub back : List ℕ
  pub was : old ≡ front ++ (middle ++ back)
  pub is : new ≡ front ++ (these ++ back)
  pub from_is : from ≡ length front
  pub to_is : to ≡ length front + length middle

-- a comma where there is to be one
abbrev pub comma_if : Bool → List ℕ
comma_if true = 0x2c ∷ []
comma_if false = []

-- parts without blanks at both ends
pub record IsTrimmed (parts : Parts) : Type 0 where
  pub led_is : led [] parts ≡ parts
  pub ended_is : ended [] parts ≡ parts

-- a value that may hold others
abbrev pub Holds : Tree → Type 0
Holds (leaf kind s) = ⊥
Holds (empty shape gap) = Unit {0}
Holds (group shape parts) = Unit {0}

-- an array
abbrev pub IsArray : Tree → Type 0
IsArray (leaf kind s) = ⊥
IsArray (empty shape gap) = shape ≡ shapes.Array
IsArray (group shape parts) = shape ≡ shapes.Array

-- bytes are a JSON text
abbrev pub IsDocument : List ℕ → Type 0
IsDocument bytes = (d : Document) × IsText MOST_DEEP d bytes

-- a value stands at this place
abbrev pub IsStanding : List ℕ → ℕ → Type 0
IsStanding bytes at = (t : Tree) × IsAt bytes at t

-- new parts go at the end of the value at this place
abbrev pub EndsAt : List ℕ → ℕ → Gap → Type 0
EndsAt bytes at gap =
    (t : Tree) (s : IsAt bytes at t) → Holds t → (new : Parts) → IsTrimmed new
    → Spliced bytes (s.front ++ (text (with_pushed new t) ++ s.back)) (comma_if gap.comma ++ parts_text new) gap.at gap.at

-- new elements go at the front of the array at this place
abbrev pub BeginsAt : List ℕ → ℕ → Gap → Type 0
BeginsAt bytes at gap =
    (t : Tree) (s : IsAt bytes at t) → IsArray t → (new : Parts) → IsTrimmed new
    → Spliced bytes (s.front ++ (text (with_inserted 0 new t) ++ s.back)) (parts_text new ++ comma_if gap.comma) gap.at gap.at

-- ---- where parts stand among the bytes of all

-- how many bytes a part has with the comma behind it
abbrev pub step : Head → Tree → List ℕ → ℕ
step h t g = length (head_text h) + (length (text t) + (length g + 1))

-- the place of a part's first byte behind its blanks
abbrev pub start_in : ℕ → Parts → ℕ
start_in zero (last h t g) = length (gap_before h)
start_in (suc k) (last h t g) = 0
start_in zero (more h t g ps) = length (gap_before h)
start_in (suc k) (more h t g ps) = step h t g + start_in k ps

-- the place of the first byte of a part's value
abbrev pub value_in : ℕ → Parts → ℕ
value_in zero (last h t g) = length (head_text h)
value_in (suc k) (last h t g) = 0
value_in zero (more h t g ps) = length (head_text h)
value_in (suc k) (more h t g ps) = step h t g + value_in k ps

-- the place behind the last byte of a part's value
abbrev pub end_in : ℕ → Parts → ℕ
end_in zero (last h t g) = length (head_text h) + length (text t)
end_in (suc k) (last h t g) = 0
end_in zero (more h t g ps) = length (head_text h) + length (text t)
end_in (suc k) (more h t g ps) = step h t g + end_in k ps

-- where the value of the part before this one ends, of parts that begin at this place
abbrev pub before_in : ℕ → ℕ → Parts → Option ℕ
before_in at zero ps = None
before_in at (suc k) ps = Some (at + end_in k ps)

-- the value at one place is that of a part of the value at another
abbrev pub IsPartOf : List ℕ → ℕ → ℕ → Type 0
IsPartOf bytes whole at =
    (shape : Shape) × (ps : Parts) × (k : ℕ) × IsAt bytes whole (group shape ps) × (k < count ps) × (at ≡ whole + 1 + value_in k ps)

-- where such a part stands
abbrev pub MeetsAt : List ℕ → Shape → ℕ → ℕ → Met → Type 0
MeetsAt bytes shape whole at met =
    (ps : Parts) (k : ℕ) → IsAt bytes whole (group shape ps) → k < count ps → at ≡ whole + 1 + value_in k ps
    → (met.start ≡ whole + 1 + start_in k ps) × (met.before ≡ before_in (whole + 1) k ps)

-- these bytes go with a part of the value at one place, whose own value is at another
abbrev pub CutsAt : List ℕ → ℕ → ℕ → Span → Type 0
CutsAt bytes whole at span =
    (shape : Shape) (ps : Parts) (k : ℕ) (s : IsAt bytes whole (group shape ps)) → k < count ps → at ≡ whole + 1 + value_in k ps
    → Spliced bytes (s.front ++ (text (with_removed k (group shape ps)) ++ s.back)) [] span.from span.to
