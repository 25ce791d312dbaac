-- Stepping over values of a text that is known to be JSON: what is left of the bytes.
use Rattle.std.specs.Prelude.{ℕ, ◌+◌, ◌-◌, List, [], ◌∷◌, drop, Bool, false, Option, Some, None, ◌==◌, ◌||◌, if◌then◌else◌}
use Rattle.json_model.specs.declared.kinds.Shape.{Shape}
use Rattle.json_model.specs.declared.kinds.Shape.TheVariants as shapes
use Rattle.json_spell.specs.Tokens.{is_blank, behind_gap}

-- whether a byte opens an object or an array
abbrev pub opens : ℕ → Bool
opens x = x == 0x7b || x == 0x5b

-- whether a byte closes an object or an array
abbrev pub closes : ℕ → Bool
closes x = x == 0x7d || x == 0x5d

-- whether a number or a word ends before a byte: a blank, a comma or a closing bracket
abbrev pub ends_word : ℕ → Bool
ends_word x = is_blank x || x == 0x2c || closes x

-- the bytes behind a number or a word
unfoldable pub behind_word : List ℕ → List ℕ
behind_word [] = []
behind_word (x ∷ xs) = if ends_word x then x ∷ xs else behind_word xs

unfoldable mutual
  -- The bytes behind a string, from behind its opening quotation mark on.
  pub behind_string : List ℕ → List ℕ
  behind_string [] = []
  behind_string (x ∷ xs) = if x == 0x22 then xs else if x == 0x5c then behind_escape xs else behind_string xs

  -- the byte behind a reverse solidus doesn't end the string
  pub behind_escape : List ℕ → List ℕ
  behind_escape [] = []
  behind_escape (x ∷ xs) = behind_string xs

unfoldable mutual
  -- The bytes behind the bracket that closes an object or an array, within which so many others are open. Strings are
  -- passed over as wholes.
  pub closed_at : ℕ → List ℕ → List ℕ
  closed_at depth [] = []
  closed_at depth (x ∷ xs) =
      if x == 0x22 then string_at depth xs else
      if opens x then closed_at (depth + 1) xs else
      if closes x then (if depth == 0 then xs else closed_at (depth - 1) xs) else closed_at depth xs

  -- the same from within a string on
  pub string_at : ℕ → List ℕ → List ℕ
  string_at depth [] = []
  string_at depth (x ∷ xs) = if x == 0x22 then closed_at depth xs else if x == 0x5c then escape_at depth xs else string_at depth xs

  -- the same from behind a reverse solidus on
  pub escape_at : ℕ → List ℕ → List ℕ
  escape_at depth [] = []
  escape_at depth (x ∷ xs) = string_at depth xs

-- the bytes behind a value that is at the front
abbrev pub behind_value : List ℕ → List ℕ
behind_value [] = []
behind_value (x ∷ xs) = if x == 0x22 then behind_string xs else if opens x then closed_at 0 xs else behind_word (x ∷ xs)

-- the bytes behind the key of a part that is at the front, if it has one
abbrev pub behind_key : Shape → List ℕ → List ℕ
behind_key shapes.Object bytes = behind_value bytes
behind_key shapes.Array bytes = bytes

-- the value of a part, from behind its key on
abbrev pub behind_colon : Shape → List ℕ → List ℕ
behind_colon shapes.Object bytes = behind_gap (drop 1 (behind_gap bytes))
behind_colon shapes.Array bytes = bytes

-- whether a closing bracket is first
abbrev pub is_closed : List ℕ → Bool
is_closed [] = false
is_closed (x ∷ xs) = closes x

-- the shape of a value that begins with this byte, where no closing bracket follows
abbrev pub shape_told : ℕ → List ℕ → Option Shape
shape_told x xs =
    if is_closed (behind_gap xs) then None else if x == 0x7b then Some shapes.Object else if x == 0x5b then Some shapes.Array else None
