-- The grammar of paths: which bytes spell which parts.
--
--   path      = [first *further]              in UTF-8
--   first     = component / index
--   further   = "." component / index
--   component = 1*bare / "`" *between "`"     bare: all but . [ ] and the backtick; between: a backtick is written twice
--   index     = "[" ("-1" / digits) "]"       digits: decimal, no leading zero, below 2^32
use Rattle.std.specs.Prelude.{◌≡◌, ◌≢◌, ℕ, ◌<◌, ◌≤◌, ◌^◌, List, [], ◌∷◌, ◌++◌, length, ◌⊎◌, codes, ◌==◌, if◌then◌else◌, IsUtf8, Result, Ok, Err}
use Rattle.std.specs.List.{flat_map, AllByRecursion}
use Rattle.std.specs.Str.Parse.{digits_value}
use Rattle.doc_model.specs.declared.status.Status.{Status}
use Rattle.doc_model.specs.declared.status.TheConstants.Status as status
use Rattle.json_model.specs.declared.TheConstants.{PATH_LIMIT, PARTS_LIMIT}
use Rattle.json_model.specs.declared.asked.Part.{Part}
use Rattle.json_model.specs.declared.asked.Part.TheVariants.{Member, At, Last}
use Rattle.json_model.specs.Grammar.{IsWhole}

-- a byte of a component without backticks: any but . [ ] and the backtick
pub record IsBare (byte : ℕ) : Type 0 where
  pub no_point : byte ≢ 0x2e
  pub no_opening : byte ≢ 0x5b
  pub no_closing : byte ≢ 0x5d
  pub no_backtick : byte ≢ 0x60

-- a byte between backticks: the backtick is written twice
abbrev pub doubled : ℕ → List ℕ
doubled byte = if byte == 0x60 then 0x60 ∷ 0x60 ∷ [] else byte ∷ []

-- a name between backticks
abbrev pub ticked : List ℕ → List ℕ
ticked name = 0x60 ∷ (flat_map doubled name ++ 0x60 ∷ [])

-- a name's spelling: itself where it has a byte and none that needs backticks, or any name between backticks
abbrev pub IsComponent : List ℕ → List ℕ → Type 0
IsComponent name bytes = ((name ≢ []) × AllByRecursion IsBare name × (bytes ≡ name)) ⊎ (bytes ≡ ticked name)

-- a part that begins a path, and its spelling
abbrev pub IsFirst : Part → List ℕ → Type 0
IsFirst (Member name) bytes = IsComponent name bytes
IsFirst (At n) bytes = (digits : List ℕ) × IsWhole digits × (n ≡ digits_value 10 digits) × (n < 2 ^ 32) × (bytes ≡ 0x5b ∷ (digits ++ 0x5d ∷ []))
IsFirst Last bytes = bytes ≡ codes "[-1]"

-- a part behind another: a name has a point before it
abbrev pub IsFurther : Part → List ℕ → Type 0
IsFurther (Member name) bytes = (spelled : List ℕ) × IsComponent name spelled × (bytes ≡ 0x2e ∷ spelled)
IsFurther (At n) bytes = IsFirst (At n) bytes
IsFurther Last bytes = IsFirst Last bytes

-- parts behind another
abbrev pub AreFurther : List Part → List ℕ → Type 0
AreFurther [] bytes = bytes ≡ []
AreFurther (p ∷ ps) bytes = (first : List ℕ) × (rest : List ℕ) × IsFurther p first × AreFurther ps rest × (bytes ≡ first ++ rest)

-- the bytes spell these parts, one behind the other
abbrev pub Spells : List Part → List ℕ → Type 0
Spells [] bytes = bytes ≡ []
Spells (p ∷ ps) bytes = (first : List ℕ) × (rest : List ℕ) × IsFirst p first × AreFurther ps rest × (bytes ≡ first ++ rest)

-- the bytes are UTF-8 and spell these parts
pub record IsPath (parts : List Part) (bytes : List ℕ) : Type 0 where
  pub utf8 : IsUtf8 bytes
  pub spelled : Spells parts bytes

-- What is told of a path, in this order: too many bytes, no path, too many parts, its parts.
abbrev pub ReadsPath : List ℕ → Result (List Part) Status → Type 0
ReadsPath bytes answer =
    ((PATH_LIMIT < length bytes) × (answer ≡ Err status.PATH_E2BIG))
    ⊎ ((length bytes ≤ PATH_LIMIT) × ((parts : List Part) → IsPath parts bytes → ⊥) × (answer ≡ Err status.PATH_EINVAL))
    ⊎ ((length bytes ≤ PATH_LIMIT) × (parts : List Part) × IsPath parts bytes × (PARTS_LIMIT < length parts) × (answer ≡ Err status.PATH_E2BIG))
    ⊎ ((length bytes ≤ PATH_LIMIT) × (parts : List Part) × IsPath parts bytes × (length parts ≤ PARTS_LIMIT) × (answer ≡ Ok parts))
