-- A number that is read digit by digit.
use Rattle.std.specs.Prelude.{ℕ, ◌+◌, ◌-◌, ◌*◌, ◌^◌, ◌<◌, IsTrue}
use Rattle.doc_step.specs.Counter.{is_digit}

-- the number whose digits are a number's and one more
abbrev pub with_digit : ℕ → ℕ → ℕ
with_digit number byte = number * 10 + (byte - 48)

-- the byte is a digit, and the number with it is below 2^64
abbrev pub GoesOn : ℕ → ℕ → Type 0
GoesOn number byte = IsTrue (is_digit byte) × (with_digit number byte < 2 ^ 64)
