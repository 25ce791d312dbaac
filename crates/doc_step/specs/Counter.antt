-- Numbers that are counted up and down.
use Rattle.std.specs.Prelude.{ℕ, ◌+◌, ◌-◌, ◌%◌, ◌^◌, nat_lt, nat_le, Bool, true, false, ◌&&◌, List, length, Option, Some, None, if◌then◌else◌}
use Rattle.std.specs.List.{list_all}
use Rattle.std.specs.Str.Parse.{digits_value}
use Rattle.doc_step.specs.declared.TheConstants.{DIGITS_LIMIT}

-- whether a byte is a decimal digit
abbrev pub is_digit : ℕ → Bool
is_digit byte = nat_le 48 byte && nat_le byte 57

-- whether a text is 1 to 20 decimal digits of a number below 2^64
abbrev pub is_number : List ℕ → Bool
is_number text =
    nat_le 1 (length text) && nat_le (length text) DIGITS_LIMIT && list_all is_digit text && nat_lt (digits_value 10 text) (2 ^ 64)

-- the number that a text is
abbrev pub number_of : List ℕ → Option ℕ
number_of text = if is_number text then Some (digits_value 10 text) else None

-- a number counted by a delta: up modulo 2^64, or down to 0 at the least
abbrev pub moved : Bool → ℕ → ℕ → ℕ
moved true number delta = (number + delta) % 2 ^ 64
moved false number delta = number - delta
