-- Rows of hexadecimal digits.
use Rattle.std.specs.Prelude.{ℕ, nat_eq, not, filter, List}

-- a row without its spaces
abbrev pub without_spaces : List ℕ → List ℕ
without_spaces row = filter (λ c. not (nat_eq c 0x20)) row
