-- The number that a text is, read digit by digit from the front.
use Rattle.std.proofs.Common.{◌≡◌, ℕ, ◌+◌, ◌-◌, ◌^◌, ◌<◌, ◌≤◌, true, false, List, length, take, get_or, Some, None, refl, arith}
use Rattle.std.specs.List.{list_all}
use Rattle.std.specs.Char.{digit_value}
use Rattle.std.specs.Str.Parse.{digits_value}
use Rattle.std.proofs.lemmas.Grind.{common_steps}
use Rattle.std.proofs.lemmas.Bool.Decides.{nat_tests}
use Rattle.std.proofs.lemmas.Str.Parse.{digits_value-take-le}
use Rattle.std.proofs.lemmas.Int.Digits.{digits_value_more}
use Rattle.std.proofs.lemmas.List.Folds.{list_all_at, list_all_more}
use Rattle.doc_step.specs.declared.TheConstants.{DIGITS_LIMIT}
use Rattle.doc_step.specs.Counter.{is_digit, number_of}
use Rattle.doc_ops.specs.Digits.{with_digit, GoesOn}

-- the first bytes of a text, this many, are the digits of this number
pub record IsRead (text : List ℕ) (count number : ℕ) : Type 0 where
  pub digits : list_all is_digit (take count text) ≡ true
  pub value : digits_value 10 (take count text) ≡ number
  pub fits : number < 2 ^ 64

-- a digit more, whatever its number comes to
record IsReadOn (text : List ℕ) (count number : ℕ) : Type 0 where
  digits : list_all is_digit (take count text) ≡ true
  value : digits_value 10 (take count text) ≡ number

with_next : (text : List ℕ) (i number : ℕ) → i < length text → IsRead text i number
    → is_digit (get_or text i 0) ≡ true → IsReadOn text (i + 1) (with_digit number (get_or text i 0))
with_next text i number within read digit =
    let all = list_all_more is_digit text i 0 within in
    let sum = digits_value_more 10 text i within in
    let last : digit_value (get_or text i 0) ≡ get_or text i 0 - 48 = grind (arith, nat_tests) in
    record { digits = grind (arith, all, digit, read.digits); value = omega (arith, sum, last, read.value) }

-- a digit that goes on
pub read_more : (text : List ℕ) (i number made : ℕ) → i < length text → IsRead text i number
    → GoesOn number (get_or text i 0) × (made ≡ with_digit number (get_or text i 0)) → IsRead text (i + 1) made
read_more text i number made within read (goes_on, sum) =
    let on = with_next text i number within read goes_on.0 in
    record { digits = on.digits; value = omega (arith, on.value, sum); fits = omega (arith, goes_on.1, sum) }

-- the whole text
pub read_whole : (text : List ℕ) (i number : ℕ) → 1 ≤ length text → length text ≤ DIGITS_LIMIT
    → i ≡ length text → IsRead text i number → number_of text ≡ Some number
read_whole text i number some short end read =
    let all : list_all is_digit text ≡ true = grind (arith, common_steps, read.digits) in
    let value : digits_value 10 text ≡ number = grind (arith, common_steps, read.value) in
    grind (arith, nat_tests, all, value, read.fits)

-- a text that has another byte than digits
not_all : (text : List ℕ) → list_all is_digit text ≡ false → number_of text ≡ None
not_all text other = grind (arith, nat_tests, other)

-- a text of a number past 64 bits
too_great : (text : List ℕ) → 2 ^ 64 ≤ digits_value 10 text → number_of text ≡ None
too_great text great = grind (arith, nat_tests, great)

-- a byte that doesn't go on
pub read_no_more : (text : List ℕ) (i number : ℕ) → i < length text → IsRead text i number
    → ¬ (GoesOn number (get_or text i 0)) → number_of text ≡ None
read_no_more text i number within read stopped =
    elim (is_digit (get_or text i 0)) as (λ b. is_digit (get_or text i 0) ≡ b → number_of text ≡ None) [
      | true ↦ λ digit.
          let on = with_next text i number within read digit in
          let great : 2 ^ 64 ≤ with_digit number (get_or text i 0) = grind (arith, stopped, digit) in
          too_great text (omega (arith, on.value, great, digits_value-take-le 10 text (i + 1) (omega arith)))
      | false ↦ λ other. not_all text (list_all_at is_digit text i 0 within other)
    ] refl
