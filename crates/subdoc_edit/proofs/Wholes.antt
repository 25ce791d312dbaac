-- Whole numbers as they are parsed.
use Rattle.std.proofs.Common.{◌≡◌, ◌≢◌, ℕ, zero, suc, ◌^◌, ◌<◌, ◌≤◌, List, [], ◌∷◌, ◌++◌, length, drop, get_or, Bool, true, false, None, Some, Err, ◌⊎◌, inl, inr, refl, sym, ap, subst, ◌∙◌, arith, w64, ℤ, pos, neg_ℤ}
use Rattle.std.specs.Prelude.{if◌then◌else◌, ◌==◌, ◌&&◌}
use Rattle.std.specs.List.{list_all}
use Rattle.std.specs.Int.{IsInRange}
use Rattle.std.specs.Str.{IsUtf8, IsAscii}
use Rattle.std.proofs.lemmas.Str.{IsUtf8-from_ascii}
use Rattle.std.proofs.lemmas.Str.Ascii.{IsAscii-nil, IsAscii-cons}
use Rattle.std.specs.Str.Parse.{digits_value, starts_with_minus, ParsesSigned}
use Rattle.std.proofs.lemmas.Int.{ints}
use Rattle.std.proofs.lemmas.Bool.{eq-eqb, eqb-true}
use Rattle.std.proofs.lemmas.Bool.Decides.{nat_tests}
use Rattle.std.proofs.lemmas.Str.Parse.{IsNumeralModel, IsDigitsTest, numerals_by_value, parse_signed_minus, parse_signed_plain}
use Rattle.json_model.specs.Grammar.{IsNumber, IsWhole}
use Rattle.json_model.specs.Edit.{is_digit, magnitude, whole_of, fits_i64}

-- decimal digits
abbrev pub Digits : List ℕ → Type 0
Digits ds = list_all is_digit ds ≡ true

digit_range : (c : ℕ) → is_digit c ≡ true → IsInRange 48 57 c
digit_range c h = grind (arith, nat_tests)

range_digit : (c : ℕ) → IsInRange 48 57 c → is_digit c ≡ true
range_digit c h = grind (arith, nat_tests)

both_true : (a b : Bool) → (a && b) ≡ true → (a ≡ true) × (b ≡ true)
both_true true b e = (refl, e)
both_true false b e = cc

and_true : (a b : Bool) → a ≡ true → b ≡ true → (a && b) ≡ true
and_true a b e f = ap (λ (x : Bool). x && b) e ∙ f

digits_test : IsDigitsTest Digits
digits_test = record {
  empty = refl;
  parts = λ c cs h. let b = both_true (is_digit c) (list_all is_digit cs) h in (digit_range c b.0, b.1);
  more = λ c cs r h. and_true (is_digit c) (list_all is_digit cs) (range_digit c r) h;
}

pub own : IsNumeralModel Digits (digits_value 10)
own = numerals_by_value Digits digits_test

-- a JSON number without its minus begins with a digit
pub record Signed (bs : List ℕ) : Type 0 where
  pub some : 0 < length (magnitude bs)
  pub plus : get_or bs 0 0 ≢ 43

test_false : (a b : ℕ) (x : Bool) → (a == b) ≡ x → (a ≡ b → ⊥) → x ≡ false
test_false a b true e differs = absurd (differs (eqb-true a b e))
test_false a b false e differs = refl

no_minus : (bs : List ℕ) → get_or bs 0 0 ≢ 45 → magnitude bs ≡ bs
no_minus bs h = ap (λ (b : Bool). if b then drop 1 bs else bs) (test_false (get_or bs 0 0) 45 (get_or bs 0 0 == 45) refl h)

a_minus : (bs : List ℕ) → get_or bs 0 0 ≡ 45 → magnitude bs ≡ drop 1 bs
a_minus bs h = ap (λ (b : Bool). if b then drop 1 bs else bs) (eq-eqb (get_or bs 0 0) 45 h)

whole_first : (w more : List ℕ) → IsWhole w → (0 < length (w ++ more)) × (get_or (w ++ more) 0 0 ≢ 43) × (get_or (w ++ more) 0 0 ≢ 45)
whole_first [] more h = absurd h
whole_first (d ∷ ds) more (inl h) = (omega arith, (λ e. absurd (omega (arith, e, h.0))), (λ e. absurd (omega (arith, e, h.0))))
whole_first (d ∷ ds) more (inr h) = (omega arith, (λ e. absurd (omega (arith, e, h.0.low))), (λ e. absurd (omega (arith, e, h.0.low))))

signed_is : (bs m w r : List ℕ) → ((m ≡ []) ⊎ (m ≡ 0x2d ∷ [])) → IsWhole w → bs ≡ m ++ (w ++ r) → Signed bs
signed_is bs m w r (inl none) h e =
    let same : bs ≡ w ++ r = e ∙ ap (λ (l : List ℕ). l ++ (w ++ r)) none in
    let f = whole_first w r h in
    subst (λ (l : List ℕ). Signed l) (sym same) (record { some = subst (λ (l : List ℕ). 0 < length l) (sym (no_minus (w ++ r) f.2)) f.0; plus = f.1 })
signed_is bs m w r (inr minus) h e =
    let same : bs ≡ 0x2d ∷ (w ++ r) = e ∙ ap (λ (l : List ℕ). l ++ (w ++ r)) minus in
    let f = whole_first w r h in
    subst (λ (l : List ℕ). Signed l) (sym same) (record { some = f.0; plus = λ k. absurd (omega (arith, k)) })

pub signed : (bs : List ℕ) → IsNumber bs → Signed bs
signed bs h = signed_is bs h.minus h.whole (h.fraction ++ h.exponent) h.minus_is h.whole_is h.parts

-- ---- the number

whole_is : (bs : List ℕ) → Digits (magnitude bs) → (b : Bool) → starts_with_minus bs ≡ b → whole_of bs ≡ Some (if b then neg_ℤ (pos (digits_value 10 (magnitude bs))) else pos (digits_value 10 (magnitude bs)))
whole_is bs d b e =
    ap (λ (x : Bool). if x then Some (if starts_with_minus bs then neg_ℤ (pos (digits_value 10 (magnitude bs))) else pos (digits_value 10 (magnitude bs))) else None) d
    ∙ ap (λ (x : Bool). Some (if x then neg_ℤ (pos (digits_value 10 (magnitude bs))) else pos (digits_value 10 (magnitude bs)))) e

pub no_whole : (bs : List ℕ) → list_all is_digit (magnitude bs) ≡ false → whole_of bs ≡ None
no_whole bs e = ap (λ (x : Bool). if x then Some (if starts_with_minus bs then neg_ℤ (pos (digits_value 10 (magnitude bs))) else pos (digits_value 10 (magnitude bs))) else None) e

beyond_pos : (n : ℕ) → 2 ^ 63 ≤ n → fits_i64 (pos n) ≡ false
beyond_pos n h = grind (arith, ints)

beyond_neg : (n : ℕ) → 2 ^ 63 < n → fits_i64 (neg_ℤ (pos n)) ≡ false
beyond_neg zero h = absurd (omega (arith, h))
beyond_neg (suc n) h = grind (arith, ints)

within_pos : (n : ℕ) → n < 2 ^ 63 → fits_i64 (pos n) ≡ true
within_pos n h = grind (arith, ints)

within_neg : (n : ℕ) → n ≤ 2 ^ 63 → fits_i64 (neg_ℤ (pos n)) ≡ true
within_neg zero h = grind (arith, ints)
within_neg (suc n) h = grind (arith, ints)

not_both : true ≡ false → ⊥
not_both e = cc

above : (a b : ℕ) → b ≡ a → ((a ≤ 2 ^ 63) → ⊥) → 2 ^ 63 < b
above a b e h = grind arith

from : (a b : ℕ) → b ≡ a → ((a < 2 ^ 63) → ⊥) → 2 ^ 63 ≤ b
from a b e h = grind arith

-- a number that can't be parsed is too large
pub large : (E : Type 0) (bs : List ℕ) (e : E) → ParsesSigned {E = E} w64 10 bs (Err e) → IsNumber bs → Digits (magnitude bs) → (n : ℤ) × (whole_of bs ≡ Some n) × (fits_i64 n ≡ false)
large E bs e h is d = by (starts_with_minus bs) refl
  where
    by : (b : Bool) → starts_with_minus bs ≡ b → (n : ℤ) × (whole_of bs ≡ Some n) × (fits_i64 n ≡ false)
    by true minus =
        let first : get_or bs 0 0 ≡ 45 = eqb-true (get_or bs 0 0) 45 minus in
        let same : magnitude bs ≡ drop 1 bs = a_minus bs first in
        let refused = parse_signed_minus own w64 bs (Err e) h first in
        let value : ℕ = digits_value 10 (magnitude bs) in
        (neg_ℤ (pos value), whole_is bs d true minus, beyond_neg value (above (digits_value 10 (drop 1 bs)) value (ap (digits_value 10) same) (λ less. refused (subst Digits same d, subst (λ (l : List ℕ). 0 < length l) same ((signed bs is).some), less))))
    by false minus =
        let first : get_or bs 0 0 ≢ 45 = λ k. absurd (not_both (sym (eq-eqb (get_or bs 0 0) 45 k) ∙ minus)) in
        let same : magnitude bs ≡ bs = no_minus bs first in
        let refused = parse_signed_plain own w64 bs (Err e) h ((signed bs is).plus) first in
        let value : ℕ = digits_value 10 (magnitude bs) in
        (pos value, whole_is bs d false minus, beyond_pos value (from (digits_value 10 bs) value (ap (digits_value 10) same) (λ less. refused (subst Digits same d, subst (λ (l : List ℕ). 0 < length l) same ((signed bs is).some), less))))

digits_ascii : (ds : List ℕ) → Digits ds → IsAscii ds
digits_ascii [] d = IsAscii-nil
digits_ascii (c ∷ cs) d =
    let b = both_true (is_digit c) (list_all is_digit cs) d in
    let r = digit_range c b.0 in
    IsAscii-cons c cs (omega (arith, r)) (digits_ascii cs b.1)

sign_ascii : (c : ℕ) (cs : List ℕ) (b : Bool) → (c == 45) ≡ b → Digits (if b then cs else c ∷ cs) → IsAscii (c ∷ cs)
sign_ascii c cs true e d = IsAscii-cons c cs (omega (arith, eqb-true c 45 e)) (digits_ascii cs d)
sign_ascii c cs false e d = digits_ascii (c ∷ cs) d

-- such bytes are text
pub digits_text : (bs : List ℕ) → Digits (magnitude bs) → IsUtf8 bs
digits_text [] d = IsUtf8-from_ascii [] IsAscii-nil
digits_text (c ∷ cs) d = IsUtf8-from_ascii (c ∷ cs) (sign_ascii c cs (c == 45) refl d)
