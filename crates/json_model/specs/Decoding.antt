-- The characters that a string stands for (RFC 8259, section 7), in UTF-8.
use Rattle.std.specs.Prelude.{◌≡◌, ℕ, ◌+◌, ◌-◌, ◌*◌, ◌/◌, ◌%◌, List, [], ◌∷◌, ◌++◌, Option, Some, None, ◌==◌, nat_lt, nat_le, ◌&&◌, if◌then◌else◌, option_map, Bool}
use Rattle.std.specs.List.{AllByRecursion}
use Rattle.json_model.specs.Grammar.{IsCharacter, quoted}

-- a number's character in UTF-8 (RFC 3629, section 3)
abbrev pub utf8 : ℕ → List ℕ
utf8 n =
    if nat_lt n 0x80 then n ∷ [] else
    if nat_lt n 0x800 then (0xc0 + n / 64) ∷ (0x80 + n % 64) ∷ [] else
    if nat_lt n 0x10000 then (0xe0 + n / 4096) ∷ (0x80 + n / 64 % 64) ∷ (0x80 + n % 64) ∷ [] else
    (0xf0 + n / 262144) ∷ (0x80 + n / 4096 % 64) ∷ (0x80 + n / 64 % 64) ∷ (0x80 + n % 64) ∷ []

-- what a letter behind a reverse solidus stands for: itself but for b f n r t
abbrev pub escaped : ℕ → ℕ
escaped x = if x == 0x62 then 0x08 else if x == 0x66 then 0x0c else if x == 0x6e then 0x0a else if x == 0x72 then 0x0d else if x == 0x74 then 0x09 else x

-- the number of a hexadecimal digit of either case
abbrev pub hex : ℕ → ℕ
hex x = if nat_lt x 0x41 then x - 0x30 else if nat_lt x 0x61 then x - 0x37 else x - 0x57

-- What the bytes of one character or escape are: a character in UTF-8, or the code unit that four digits give.
pub data Unit16 : Type 0 where
  character : List ℕ → Unit16
  unit : ℕ → Unit16

-- what the bytes of one character or escape are
abbrev pub unit_of : List ℕ → Unit16
unit_of (a ∷ b ∷ []) = if a == 0x5c then character (escaped b ∷ []) else character (a ∷ b ∷ [])
unit_of (a ∷ b ∷ c ∷ d ∷ e ∷ f ∷ more) = unit (4096 * hex c + 256 * hex d + 16 * hex e + hex f)
unit_of other = character other

-- whether a code unit is the first half of a surrogate pair
abbrev pub is_high : ℕ → Bool
is_high n = nat_le 0xd800 n && nat_lt n 0xdc00

-- whether a code unit is the second half of a surrogate pair
abbrev pub is_low : ℕ → Bool
is_low n = nat_le 0xdc00 n && nat_lt n 0xe000

-- two surrogates as one character
abbrev pub paired : ℕ → ℕ → ℕ
paired high low = 0x10000 + (1024 * (high - 0xd800) + (low - 0xdc00))

-- these bytes, and then the rest where there is one
abbrev pub join : List ℕ → Option (List ℕ) → Option (List ℕ)
join front rest = option_map (λ bytes. front ++ bytes) rest

-- One more character behind what may be a high surrogate, and then the rest.
abbrev pub decode_unit : Option ℕ → Unit16 → (Option ℕ → Option (List ℕ)) → Option (List ℕ)
decode_unit None (character bytes) rest = join bytes (rest None)
decode_unit None (unit n) rest = if is_high n then rest (Some n) else if is_low n then None else join (utf8 n) (rest None)
decode_unit (Some high) (character bytes) rest = None
decode_unit (Some high) (unit n) rest = if is_low n then join (utf8 (paired high n)) (rest None) else None

-- The characters, in UTF-8: a high and a low surrogate behind it are one; where a surrogate is alone there are none.
unfoldable pub decode : Option ℕ → List (List ℕ) → Option (List ℕ)
decode None [] = Some []
decode (Some high) [] = None
decode waiting (c ∷ cs) = decode_unit waiting (unit_of c) (λ next. decode next cs)

-- the text of a string stands for these characters
abbrev pub StandsFor : List ℕ → List ℕ → Type 0
StandsFor text characters = (cs : List (List ℕ)) × AllByRecursion IsCharacter cs × (text ≡ quoted cs) × (decode None cs ≡ Some characters)
