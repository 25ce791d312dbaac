-- The texts of JSON's leaves, as RFC 8259 has them: blanks, strings, numbers and the three words.
use Rattle.std.specs.Prelude.{◌≡◌, ℕ, ◌≤◌, List, [], ◌∷◌, ◌++◌, ◌⊎◌, codes}
use Rattle.std.specs.List.{flat_map, AllByRecursion}
use Rattle.json_model.specs.declared.kinds.Kind.{Kind}
use Rattle.json_model.specs.declared.kinds.Kind.TheVariants as kinds

-- a number from one number to another
pub record Within (least most x : ℕ) : Type 0 where
  pub low : least ≤ x
  pub high : x ≤ most

-- ---- blanks: space, tab, line feed, carriage return (section 2)

-- space, tab, line feed or carriage return
abbrev pub IsBlank : ℕ → Type 0
IsBlank x = (x ≡ 0x20) ⊎ (x ≡ 0x09) ⊎ (x ≡ 0x0a) ⊎ (x ≡ 0x0d)

-- blanks, or nothing
abbrev pub AreBlanks : List ℕ → Type 0
AreBlanks = AllByRecursion IsBlank

-- ---- strings (section 7), in UTF-8 (RFC 3629, section 4)

-- a byte that goes on with a character of UTF-8
abbrev pub IsTail : ℕ → Type 0
IsTail x = Within 0x80 0xbf x

-- the first two of three bytes that are a character: nothing overlong, no surrogate
abbrev pub BeginsThree : ℕ → ℕ → Type 0
BeginsThree a b = ((a ≡ 0xe0) × Within 0xa0 0xbf b) ⊎ (Within 0xe1 0xec a × IsTail b) ⊎ ((a ≡ 0xed) × Within 0x80 0x9f b) ⊎ (Within 0xee 0xef a × IsTail b)

-- the first two of four bytes that are a character: nothing overlong, nothing above 10ffff
abbrev pub BeginsFour : ℕ → ℕ → Type 0
BeginsFour a b = ((a ≡ 0xf0) × Within 0x90 0xbf b) ⊎ (Within 0xf1 0xf3 a × IsTail b) ⊎ ((a ≡ 0xf4) × Within 0x80 0x8f b)

-- the bytes of one character of UTF-8
abbrev pub IsUtf8Character : List ℕ → Type 0
IsUtf8Character [] = ⊥
IsUtf8Character (a ∷ []) = a ≤ 0x7f
IsUtf8Character (a ∷ b ∷ []) = Within 0xc2 0xdf a × IsTail b
IsUtf8Character (a ∷ b ∷ c ∷ []) = BeginsThree a b × IsTail c
IsUtf8Character (a ∷ b ∷ c ∷ d ∷ []) = BeginsFour a b × IsTail c × IsTail d
IsUtf8Character (a ∷ b ∷ c ∷ d ∷ e ∷ more) = ⊥

-- a character of one byte that needs no escape
abbrev pub IsPlain : ℕ → Type 0
IsPlain x = Within 0x20 0x21 x ⊎ Within 0x23 0x5b x ⊎ Within 0x5d 0x7f x

-- what may follow a reverse solidus: one of " \ / b f n r t
abbrev pub IsEscaped : ℕ → Type 0
IsEscaped x = (x ≡ 0x22) ⊎ (x ≡ 0x5c) ⊎ (x ≡ 0x2f) ⊎ (x ≡ 0x62) ⊎ (x ≡ 0x66) ⊎ (x ≡ 0x6e) ⊎ (x ≡ 0x72) ⊎ (x ≡ 0x74)

-- a hexadecimal digit of either case
abbrev pub IsHex : ℕ → Type 0
IsHex x = Within 0x30 0x39 x ⊎ Within 0x41 0x46 x ⊎ Within 0x61 0x66 x

-- the bytes of one character of a string, or of one escape
abbrev pub IsCharacter : List ℕ → Type 0
IsCharacter [] = ⊥
IsCharacter (a ∷ []) = IsPlain a
IsCharacter (a ∷ b ∷ []) = (Within 0xc2 0xdf a × IsTail b) ⊎ ((a ≡ 0x5c) × IsEscaped b)
IsCharacter (a ∷ b ∷ c ∷ []) = BeginsThree a b × IsTail c
IsCharacter (a ∷ b ∷ c ∷ d ∷ []) = BeginsFour a b × IsTail c × IsTail d
IsCharacter (a ∷ b ∷ c ∷ d ∷ e ∷ []) = ⊥
IsCharacter (a ∷ b ∷ c ∷ d ∷ e ∷ f ∷ []) = (a ≡ 0x5c) × (b ≡ 0x75) × IsHex c × IsHex d × IsHex e × IsHex f
IsCharacter (a ∷ b ∷ c ∷ d ∷ e ∷ f ∷ g ∷ more) = ⊥

-- the text of a string whose characters are these: they stand between quotation marks
abbrev pub quoted : List (List ℕ) → List ℕ
quoted characters = 0x22 ∷ (flat_map (λ c. c) characters ++ 0x22 ∷ [])

-- the text of a string
abbrev pub IsString : List ℕ → Type 0
IsString text = (characters : List (List ℕ)) × AllByRecursion IsCharacter characters × (text ≡ quoted characters)

-- ---- numbers (section 6)

-- decimal digits, or nothing
abbrev pub AreDigits : List ℕ → Type 0
AreDigits = AllByRecursion (Within 0x30 0x39)

-- one digit or more
abbrev pub IsDigits : List ℕ → Type 0
IsDigits [] = ⊥
IsDigits (d ∷ ds) = Within 0x30 0x39 d × AreDigits ds

-- 0, or digits of which the first isn't 0
abbrev pub IsWhole : List ℕ → Type 0
IsWhole [] = ⊥
IsWhole (d ∷ ds) = ((d ≡ 0x30) × (ds ≡ [])) ⊎ (Within 0x31 0x39 d × AreDigits ds)

-- nothing, or a point and digits
abbrev pub IsFraction : List ℕ → Type 0
IsFraction [] = Unit {0}
IsFraction (p ∷ ds) = (p ≡ 0x2e) × IsDigits ds

-- nothing, or one of e E, perhaps one of + -, and digits
abbrev pub IsExponent : List ℕ → Type 0
IsExponent [] = Unit {0}
IsExponent (e ∷ more) =
    ((e ≡ 0x65) ⊎ (e ≡ 0x45)) × (sign : List ℕ) × (digits : List ℕ) × ((sign ≡ []) ⊎ (sign ≡ 0x2b ∷ []) ⊎ (sign ≡ 0x2d ∷ [])) × IsDigits digits × (more ≡ sign ++ digits)

-- perhaps a minus, then a whole number, a fraction, an exponent
pub record IsNumber (text : List ℕ) : Type 0 where
  pub minus : List ℕ
  pub whole : List ℕ
  pub fraction : List ℕ
  pub exponent : List ℕ
  pub minus_is : (minus ≡ []) ⊎ (minus ≡ 0x2d ∷ [])
  pub whole_is : IsWhole whole
  pub fraction_is : IsFraction fraction
  pub exponent_is : IsExponent exponent
  pub parts : text ≡ minus ++ (whole ++ (fraction ++ exponent))

-- ---- leaves

-- the text of a value that holds no others
abbrev pub IsLeaf : Kind → List ℕ → Type 0
IsLeaf kinds.Object text = ⊥
IsLeaf kinds.Array text = ⊥
IsLeaf kinds.Text text = IsString text
IsLeaf kinds.Number text = IsNumber text
IsLeaf kinds.True text = text ≡ codes "true"
IsLeaf kinds.False text = text ≡ codes "false"
IsLeaf kinds.Null text = text ≡ codes "null"
