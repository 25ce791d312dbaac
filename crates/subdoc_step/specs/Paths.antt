-- The parts that a path has, and where they lead in a tree.
use Rattle.std.specs.Prelude.{ℕ, zero, suc, ◌-◌, List, [], ◌∷◌, length, drop, Bool, true, false, nat_lt, if◌then◌else◌, Option, Some, None, option_map, Result, Ok, Err}
use Rattle.std.specs.Str.{is_utf8}
use Rattle.doc_model.specs.declared.status.Status.{Status}
use Rattle.doc_model.specs.declared.status.TheConstants.Status as status
use Rattle.json_model.specs.declared.TheConstants.{PATH_LIMIT, PARTS_LIMIT}
use Rattle.json_model.specs.declared.kinds.Shape.{Shape}
use Rattle.json_model.specs.declared.kinds.Shape.TheVariants as shapes
use Rattle.json_model.specs.declared.asked.Part.{Part}
use Rattle.json_model.specs.declared.asked.Part.TheVariants.{Member, At, Last}
use Rattle.json_model.specs.Spelled.{Head, plain, keyed, Tree, leaf, empty, group, Parts, last, more, count}
use Rattle.json_model.specs.Follow.{asks, child, Outcome, reached, missing, mismatch, over}
use Rattle.subdoc_path.specs.Reading.{first_at, further_at}
use Rattle.subdoc_path.specs.Matching.{matches}

-- ---- the parts of a path

-- a part that was read, and the parts of the bytes behind it
abbrev pub and_then : Option (Part × List ℕ) → (List ℕ → Option (List Part)) → Option (List Part)
and_then None rest = None
and_then (Some read) rest = option_map (λ parts. read.0 ∷ parts) (rest read.1)

-- the parts that bytes behind a part spell: so many at most, since each has a byte
unfoldable pub further_parts : ℕ → List ℕ → Option (List Part)
further_parts most [] = Some []
further_parts zero (x ∷ xs) = None
further_parts (suc most) (x ∷ xs) = and_then (further_at (x ∷ xs)) (λ rest. further_parts most rest)

-- the parts that bytes spell
unfoldable pub parts_of : List ℕ → Option (List Part)
parts_of [] = Some []
parts_of (x ∷ xs) = and_then (first_at (x ∷ xs)) (λ rest. further_parts (length xs) rest)

-- not too many parts
abbrev pub few : Option (List Part) → Result (List Part) Status
few None = Err status.PATH_EINVAL
few (Some parts) = if nat_lt PARTS_LIMIT (length parts) then Err status.PATH_E2BIG else Ok parts

-- the parts of a path, or why bytes are none: too many bytes, no path, too many parts
unfoldable pub read_parts : List ℕ → Result (List Part) Status
read_parts bytes =
    if nat_lt PATH_LIMIT (length bytes) then Err status.PATH_E2BIG else
    if is_utf8 bytes then few (parts_of bytes) else Err status.PATH_EINVAL

-- ---- where one part leads

-- whether two shapes are one
abbrev pub same_shape : Shape → Shape → Bool
same_shape shapes.Object shapes.Object = true
same_shape shapes.Object shapes.Array = false
same_shape shapes.Array shapes.Object = false
same_shape shapes.Array shapes.Array = true

-- whether a head's key stands for this name
abbrev pub is_called : List ℕ → Head → Bool
is_called name (plain gap) = false
is_called name (keyed gap key behind before) = matches None (drop 1 key) name

-- the number of the first part of this name
unfoldable pub first_called : List ℕ → Parts → Option ℕ
first_called name (last head tree gap) = if is_called name head then Some 0 else None
first_called name (more head tree gap parts) =
    if is_called name head then Some 0 else option_map (λ k. suc k) (first_called name parts)

-- the number of the part that a part of a path names
abbrev pub named : Part → Parts → Option ℕ
named (Member name) parts = first_called name parts
named (At n) parts = if nat_lt n (count parts) then Some n else None
named Last parts = Some (count parts - 1)

-- ---- where parts lead

-- behind the value of the part of this number
abbrev pub onward : ℕ → Option Tree → (Tree → Outcome) → Outcome
onward k None next = mismatch 0
onward k (Some tree) next = over k (next tree)

-- behind the part that is named, where one is
abbrev pub through : Parts → Option ℕ → (Tree → Outcome) → Outcome → Outcome
through parts None next none = none
through parts (Some k) next none = onward k (child parts k) next

-- what comes of following parts in a tree
unfoldable pub followed : List Part → Tree → Outcome
followed [] tree = reached [] tree
followed (p ∷ ps) (leaf kind s) = mismatch 0
followed (p ∷ ps) (empty shape gap) =
    if same_shape (asks p) shape then missing [] (empty shape gap) (p ∷ ps) else mismatch 0
followed (p ∷ ps) (group shape parts) =
    if same_shape (asks p) shape
    then through parts (named p parts) (λ tree. followed ps tree)
    (missing [] (group shape parts) (p ∷ ps))
    else mismatch 0
