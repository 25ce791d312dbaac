-- Reading tokens from left to right.
use Rattle.std.specs.Prelude.{ℕ, zero, suc, List, [], ◌∷◌, length, Bool, true, false, Option, Some, None, Result, Ok, Err, ◌==◌, nat_le, ◌&&◌, ◌||◌, if◌then◌else◌}
use Rattle.json_model.specs.declared.kinds.Kind.{Kind}
use Rattle.json_model.specs.declared.kinds.Kind.TheVariants as kinds
use Rattle.json_spell.specs.declared.tokens.Stop.{Stop}
use Rattle.json_spell.specs.declared.tokens.Stop.TheVariants as stops
use Rattle.json_spell.specs.declared.tokens.Mode.{Mode}
use Rattle.json_spell.specs.declared.tokens.Mode.TheVariants as modes

-- what a function returned, with the value behind Ok seen by f
abbrev pub seen : {A B : Type 0} → (A → B) → Result A Stop → Result B Stop
seen f (Ok x) = Ok (f x)
seen f (Err e) = Err e

-- whether a number is in a range
abbrev pub within : ℕ → ℕ → ℕ → Bool
within least most x = nat_le least x && nat_le x most

-- in a character: a byte in this range comes next, and so many further ones
abbrev pub tail : ℕ → ℕ → ℕ → Mode
tail least most more = modes.Tail least most more

-- the mode behind a byte between characters of a string
abbrev pub inside : ℕ → Option Mode
inside x =
    if x == 0x22 then Some modes.Closed else
    if x == 0x5c then Some modes.Escape else
    if within 0x20 0x7f x then Some modes.Inside else
    if within 0xc2 0xdf x then Some (tail 0x80 0xbf 0) else
    if x == 0xe0 then Some (tail 0xa0 0xbf 1) else
    if x == 0xed then Some (tail 0x80 0x9f 1) else
    if within 0xe1 0xef x then Some (tail 0x80 0xbf 1) else
    if x == 0xf0 then Some (tail 0x90 0xbf 2) else
    if x == 0xf4 then Some (tail 0x80 0x8f 2) else
    if within 0xf1 0xf3 x then Some (tail 0x80 0xbf 2) else None

-- whether a byte is a decimal digit
abbrev pub is_digit : ℕ → Bool
is_digit x = within 0x30 0x39 x

-- whether a byte begins an exponent
abbrev pub is_mark : ℕ → Bool
is_mark x = x == 0x65 || x == 0x45

-- whether a byte is a hexadecimal digit of either case
abbrev pub is_hex : ℕ → Bool
is_hex x = within 0x30 0x39 x || within 0x41 0x46 x || within 0x61 0x66 x

-- whether a byte may follow a reverse solidus, other than u
abbrev pub is_escaped : ℕ → Bool
is_escaped x = x == 0x22 || x == 0x5c || x == 0x2f || x == 0x62 || x == 0x66 || x == 0x6e || x == 0x72 || x == 0x74

-- the mode behind the first digit of a number
abbrev pub digit_first : ℕ → Option Mode
digit_first x = if x == 0x30 then Some modes.Zero else if within 0x31 0x39 x then Some modes.Whole else None

-- what a character needs further
abbrev pub further : ℕ → Mode
further zero = modes.Inside
further (suc more) = tail 0x80 0xbf more

-- what an escape needs further
abbrev pub digits_left : ℕ → Mode
digits_left zero = modes.Inside
digits_left (suc more) = modes.Hex more

-- the mode behind a byte, where the byte goes on
abbrev pub next : Mode → ℕ → Option Mode
next modes.Inside x = inside x
next (modes.Tail least most more) x = if within least most x then Some (further more) else None
next modes.Escape x = if x == 0x75 then Some (modes.Hex 3) else if is_escaped x then Some modes.Inside else None
next (modes.Hex more) x = if is_hex x then Some (digits_left more) else None
next modes.Closed x = None
next modes.Start x = if x == 0x2d then Some modes.Minus else digit_first x
next modes.Minus x = digit_first x
next modes.Zero x = if x == 0x2e then Some modes.Point else if is_mark x then Some modes.Mark else None
next modes.Whole x = if is_digit x then Some modes.Whole else if x == 0x2e then Some modes.Point else if is_mark x then Some modes.Mark else None
next modes.Point x = if is_digit x then Some modes.Fraction else None
next modes.Fraction x = if is_digit x then Some modes.Fraction else if is_mark x then Some modes.Mark else None
next modes.Mark x = if x == 0x2b || x == 0x2d then Some modes.Sign else if is_digit x then Some modes.Exponent else None
next modes.Sign x = if is_digit x then Some modes.Exponent else None
next modes.Exponent x = if is_digit x then Some modes.Exponent else None

-- whether a string or a number may end here
abbrev pub ends : Mode → Bool
ends modes.Inside = false
ends (modes.Tail least most more) = false
ends modes.Escape = false
ends (modes.Hex more) = false
ends modes.Closed = true
ends modes.Start = false
ends modes.Minus = false
ends modes.Zero = true
ends modes.Whole = true
ends modes.Point = false
ends modes.Fraction = true
ends modes.Mark = false
ends modes.Sign = false
ends modes.Exponent = true

-- the bytes from here on, where a string or a number may end here
abbrev pub end_here : Mode → List ℕ → Result (List ℕ) Stop
end_here m bytes = if ends m then Ok bytes else Err (stops.Not (length bytes))

-- on in a mode, or else this
abbrev pub go : Option Mode → (Mode → Result (List ℕ) Stop) → Result (List ℕ) Stop → Result (List ℕ) Stop
go None on stop = stop
go (Some m) on stop = on m

-- the bytes behind a string or a number that is read from this mode on, as far as it goes
unfoldable pub run : Mode → List ℕ → Result (List ℕ) Stop
run m [] = end_here m []
run m (x ∷ xs) = go (next m x) (λ after. run after xs) (end_here m (x ∷ xs))

-- the bytes behind a word
unfoldable pub spelled_at : List ℕ → List ℕ → Result (List ℕ) Stop
spelled_at [] bytes = Ok bytes
spelled_at (w ∷ ws) [] = Err (stops.Not 0)
spelled_at (w ∷ ws) (x ∷ xs) = if x == w then spelled_at ws xs else Err (stops.Not (length (x ∷ xs)))

-- whether a byte is a blank
abbrev pub is_blank : ℕ → Bool
is_blank x = x == 0x20 || x == 0x09 || x == 0x0a || x == 0x0d

-- the blanks at the front
unfoldable pub gap : List ℕ → List ℕ
gap [] = []
gap (x ∷ xs) = if is_blank x then x ∷ gap xs else []

-- the bytes behind the blanks at the front
unfoldable pub behind_gap : List ℕ → List ℕ
behind_gap [] = []
behind_gap (x ∷ xs) = if is_blank x then behind_gap xs else x ∷ xs

-- the kind of value that a byte begins
abbrev pub kind_at : ℕ → Option Kind
kind_at x =
    if x == 0x7b then Some kinds.Object else
    if x == 0x5b then Some kinds.Array else
    if x == 0x22 then Some kinds.Text else
    if x == 0x2d || is_digit x then Some kinds.Number else
    if x == 0x74 then Some kinds.True else
    if x == 0x66 then Some kinds.False else
    if x == 0x6e then Some kinds.Null else None
