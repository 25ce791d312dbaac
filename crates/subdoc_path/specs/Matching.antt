-- Whether the bytes of a string stand for characters, read byte by byte.
use Rattle.std.specs.Prelude.{ℕ, ◌+◌, ◌*◌, List, [], ◌∷◌, Bool, true, false, Option, Some, None, ◌==◌, if◌then◌else◌}
use Rattle.json_model.specs.Decoding.{utf8, escaped, hex, is_high, is_low, paired}

-- these bytes are first, and then
abbrev pub strip : List ℕ → List ℕ → (List ℕ → Bool) → Bool
strip [] name rest = rest name
strip (b ∷ bs) [] rest = false
strip (b ∷ bs) (n ∷ ns) rest = if b == n then strip bs ns rest else false

-- a byte that stands for itself
abbrev pub plain : Option ℕ → ℕ → List ℕ → (List ℕ → Bool) → Bool
plain None x name rest = strip (x ∷ []) name rest
plain (Some high) x name rest = false

-- a code unit
abbrev pub unit : Option ℕ → ℕ → List ℕ → (Option ℕ → List ℕ → Bool) → Bool
unit None n name rest = if is_high n then rest (Some n) name else if is_low n then false else strip (utf8 n) name (rest None)
unit (Some high) n name rest = if is_low n then strip (utf8 (paired high n)) name (rest None) else false

abbrev pub ended : Option ℕ → List ℕ → Bool
ended None [] = true
ended None (n ∷ ns) = false
ended (Some high) name = false

unfoldable mutual
  -- the bytes up to the quotation mark stand for this name
  pub matches : Option ℕ → List ℕ → List ℕ → Bool
  matches w [] name = false
  matches w (x ∷ xs) name = if x == 0x22 then ended w name else if x == 0x5c then slash w xs name else plain w x name (λ left. matches None xs left)

  -- behind a reverse solidus
  pub slash : Option ℕ → List ℕ → List ℕ → Bool
  slash w [] name = false
  slash w (e ∷ xs) name = if e == 0x75 then hexes w xs name else plain w (escaped e) name (λ left. matches None xs left)

  pub hexes : Option ℕ → List ℕ → List ℕ → Bool
  hexes w [] name = false
  hexes w (a ∷ []) name = false
  hexes w (a ∷ b ∷ []) name = false
  hexes w (a ∷ b ∷ c ∷ []) name = false
  hexes w (a ∷ b ∷ c ∷ d ∷ xs) name = unit w (4096 * hex a + 256 * hex b + 16 * hex c + hex d) name (λ next left. matches next xs left)

-- ---- the same step by step: what is left of the name

abbrev pub on : {A : Type 0} → Option A → (A → Bool) → Bool
on None rest = false
on (Some x) rest = rest x

unfoldable pub strip_left : List ℕ → List ℕ → Option (List ℕ)
strip_left [] name = Some name
strip_left (b ∷ bs) [] = None
strip_left (b ∷ bs) (n ∷ ns) = if n == b then strip_left bs ns else None

abbrev pub with_none : Option (List ℕ) → Option (Option ℕ × List ℕ)
with_none None = None
with_none (Some left) = Some (None, left)

abbrev pub plain_left : Option ℕ → ℕ → List ℕ → Option (Option ℕ × List ℕ)
plain_left None x name = with_none (strip_left (x ∷ []) name)
plain_left (Some high) x name = None

abbrev pub unit_left : Option ℕ → ℕ → List ℕ → Option (Option ℕ × List ℕ)
unit_left None n name = if is_high n then Some (Some n, name) else if is_low n then None else with_none (strip_left (utf8 n) name)
unit_left (Some high) n name = if is_low n then with_none (strip_left (utf8 (paired high n)) name) else None

-- ---- one character or escape: what waits, the bytes behind it, what is left of the name

abbrev pub behind : List ℕ → Option (Option ℕ × List ℕ) → Option (Option ℕ × List ℕ × List ℕ)
behind xs None = None
behind xs (Some x) = Some (x.0, xs, x.1)

abbrev pub digits_left : Option ℕ → List ℕ → List ℕ → Option (Option ℕ × List ℕ × List ℕ)
digits_left w [] name = None
digits_left w (a ∷ []) name = None
digits_left w (a ∷ b ∷ []) name = None
digits_left w (a ∷ b ∷ c ∷ []) name = None
digits_left w (a ∷ b ∷ c ∷ d ∷ xs) name = behind xs (unit_left w (4096 * hex a + 256 * hex b + 16 * hex c + hex d) name)

abbrev pub escape_left : Option ℕ → List ℕ → List ℕ → Option (Option ℕ × List ℕ × List ℕ)
escape_left w [] name = None
escape_left w (e ∷ xs) name = if e == 0x75 then digits_left w xs name else behind xs (plain_left w (escaped e) name)

abbrev pub letter_left : Option ℕ → List ℕ → List ℕ → Option (Option ℕ × List ℕ × List ℕ)
letter_left w [] name = None
letter_left w (x ∷ xs) name = if x == 0x5c then escape_left w xs name else behind xs (plain_left w x name)
