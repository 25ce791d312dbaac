-- The bytes in which a document's extended attributes are kept.
use Rattle.std.specs.Prelude.{◌≡◌, ◌≢◌, ℕ, ◌≤◌, ◌<◌, ◌^◌, nat_eq, Bool, true, not, ◌&&◌, List, [], ◌∷◌, ◌++◌, map, length, IsTrue}
use Rattle.std.specs.List.{All, flat_map, list_any}
use Rattle.std.specs.Int.{w32, to_be_bytes}
use Rattle.std.specs.Str.{IsUtf8}
use Rattle.std.specs.Cmp.Lexicographic.{pointwise}
use Rattle.json_model.specs.Spelled.{Document, IsText}
use Rattle.xattr_body.specs.declared.TheConstants.{NAME_LIMIT, VALUE_DEEP}

-- an attribute: its name and its text
abbrev pub Pair : Type 0
Pair = List ℕ × List ℕ

-- ---- which pairs may stand together

-- none of the bytes is 00
abbrev pub HasNoZero : List ℕ → Type 0
HasNoZero bytes = All (λ byte. byte ≢ 0) bytes

-- a name: 1 to 16 bytes of UTF-8, none of them 00
pub record IsName (name : List ℕ) : Type 0 where
  pub some : 1 ≤ length name
  pub short : length name ≤ NAME_LIMIT
  pub no_zero : HasNoZero name
  pub utf8 : IsUtf8 name

-- a value: a JSON text at most 31 deep, and the blanks round it
abbrev pub IsValue : List ℕ → Type 0
IsValue bytes = (d : Document) × IsText VALUE_DEEP d bytes

-- what stands behind the length of a pair: the name, 00, the text, 00
abbrev pub pair_body : Pair → List ℕ
pair_body pair = pair.0 ++ 0 ∷ (pair.1 ++ 0 ∷ [])

-- a name and a value, whose bytes can be counted in four bytes
pub record IsPair (pair : Pair) : Type 0 where
  pub name : IsName pair.0
  pub value : IsValue pair.1
  pub fits : length (pair_body pair) < 2 ^ 32

-- whether two names are the same
abbrev pub same_name : List ℕ → List ℕ → Bool
same_name a b = pointwise nat_eq a b

-- whether no two of the names are the same
abbrev pub are_distinct : List (List ℕ) → Bool
are_distinct [] = true
are_distinct (name ∷ more) = not (list_any (same_name name) more) && are_distinct more

-- the names of pairs, in their order
abbrev pub names : List Pair → List (List ℕ)
names pairs = map (λ pair. pair.0) pairs

-- pairs, no two of them of one name
pub record ArePairs (pairs : List Pair) : Type 0 where
  pub each : All IsPair pairs
  pub distinct : IsTrue (are_distinct (names pairs))

-- ---- their bytes

-- a pair behind its length
abbrev pub pair_bytes : Pair → List ℕ
pair_bytes pair = to_be_bytes w32 (length (pair_body pair)) ++ pair_body pair

-- pairs in their order
abbrev pub pairs_bytes : List Pair → List ℕ
pairs_bytes pairs = flat_map pair_bytes pairs

-- the section of pairs: all of them behind their length, and no bytes where there are none
unfoldable pub section_of : List Pair → List ℕ
section_of [] = []
section_of (pair ∷ more) = to_be_bytes w32 (length (pairs_bytes (pair ∷ more))) ++ pairs_bytes (pair ∷ more)

-- pairs that have a section: they may stand together, and their bytes can be counted in four bytes
pub record HaveSection (pairs : List Pair) : Type 0 where
  pub together : ArePairs pairs
  pub fits : length (pairs_bytes pairs) < 2 ^ 32

-- the bytes are the section of the pairs
pub record IsSection (pairs : List Pair) (bytes : List ℕ) : Type 0 where
  pub whole : HaveSection pairs
  pub spelled : bytes ≡ section_of pairs
