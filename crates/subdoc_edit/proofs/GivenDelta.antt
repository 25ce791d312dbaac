-- A value that is a counter's delta.
use Rattle.std.proofs.Common.{◌≡◌, ◌≢◌, ℕ, suc, zero, ◌<◌, ◌≤◌, ◌^◌, List, [], ◌∷◌, length, get_or, drop, Bool, true, false, cond, Ok, Err, Result, inl, inr, refl, sym, ap, subst, ◌∙◌, arith}
use Rattle.std.specs.Prelude.{ℤ, pos, negsuc, neg_ℤ, IsTrue, ◌==◌}
use Rattle.std.specs.Int.Signed.{mag}
use Rattle.std.specs.Int.{w64, IsInRange, cast_signed, cast_unsigned}
use Rattle.std.proofs.lemmas.Int.{to_z-of_z}
use Rattle.std.specs.Fmt.{decimal, signed_decimal}
use Rattle.std.specs.Str.{IsUtf8}
use Rattle.std.specs.Str.Parse.{AllDigits, digits_value, ParsesSigned}
use Rattle.std.proofs.lemmas.Str.Parse.{IsNumeralModel, numerals_by_value, tells_digits, digit_at, parse_signed_minus, parse_signed_plain}
use Rattle.std.proofs.lemmas.Str.{IsUtf8-from_ascii}
use Rattle.std.proofs.lemmas.Fmt.{digits_decimal, decimal_nonempty, decimal_digit, first_decimal, IsAscii-signed, decimal-digits_value, parse-signed_decimal}
use Rattle.std.proofs.lemmas.Bool.{cases_eq}
use Rattle.std.proofs.lemmas.Bool.Decides.{nat_tests}
use Rattle.json_model.specs.Edit.{magnitude, fits_i64}
use Rattle.json_model.specs.Values.{IsDelta}
use Rattle.subdoc_edit.specs.Given.{begins_with_digit}

own : IsNumeralModel (AllDigits 10) (digits_value 10)
own = numerals_by_value (AllDigits 10) tells_digits

-- ---- ranges

small_pos : (n : ℕ) → IsTrue (fits_i64 (pos n)) → n < 2 ^ 63
small_pos n h = grind (arith, nat_tests)

small_neg : (n : ℕ) → IsTrue (fits_i64 (negsuc n)) → n < 2 ^ 63
small_neg n h = grind (arith, nat_tests)

small : (z : ℤ) → IsTrue (fits_i64 z) → mag z < 2 ^ 63
small (pos n) h = small_pos n h
small (negsuc n) h = small_neg n h

fits_pos : (n : ℕ) → n < 2 ^ 63 → IsTrue (fits_i64 (pos n))
fits_pos n h = grind (arith, nat_tests)

fits_neg : (n : ℕ) → n < 2 ^ 63 → IsTrue (fits_i64 (negsuc n))
fits_neg n h = grind (arith, nat_tests)

-- ---- the first digit

begins : (ds : List ℕ) → 48 < get_or ds 0 0 → get_or ds 0 0 ≤ 57 → begins_with_digit ds ≡ true
begins [] low high = absurd (omega (arith, low))
begins (x ∷ xs) low high = grind (arith, nat_tests)

begins_low : (ds : List ℕ) → begins_with_digit ds ≡ true → (48 < get_or ds 0 0) × (get_or ds 0 0 ≤ 57)
begins_low [] e = cc
begins_low (x ∷ xs) e = grind (arith, nat_tests)

decimal_begins : (n : ℕ) → 0 < n → n < 2 ^ 64 → begins_with_digit (decimal n) ≡ true
decimal_begins n some fits =
    let digit : IsInRange 48 57 (get_or (decimal n) 0 0) = digit_at (decimal n) 0 (digits_decimal own n fits) (decimal_nonempty n fits) in
    begins (decimal n) (first_decimal n some fits) (omega (arith, digit))

no_minus : (s : List ℕ) → begins_with_digit s ≡ true → magnitude s ≡ s
no_minus [] e = cc
no_minus (x ∷ xs) e = grind (arith, nat_tests)

spelled_begins : (delta : ℤ) → delta ≢ pos 0 → IsTrue (fits_i64 delta) → begins_with_digit (magnitude (signed_decimal delta)) ≡ true
spelled_begins (pos zero) some fits = absurd (some refl)
spelled_begins (pos (suc n)) some fits =
    let lit : suc n < 2 ^ 63 = small (pos (suc n)) fits in
    let b : begins_with_digit (decimal (suc n)) ≡ true = decimal_begins (suc n) (omega arith) (omega (arith, lit)) in
    ap begins_with_digit (no_minus (decimal (suc n)) b) ∙ b
spelled_begins (negsuc n) some fits =
    let lit : n < 2 ^ 63 = small (negsuc n) fits in
    decimal_begins (suc n) (omega arith) (omega (arith, lit))

-- ---- what is refused

pub no_digit : (value digits : List ℕ) (b : Bool) → digits ≡ magnitude value → b ≡ begins_with_digit digits → b ≡ false → (delta : ℤ) → IsDelta delta value → ⊥
no_digit value digits b m is isnt delta d =
    let yes : begins_with_digit (magnitude value) ≡ true = ap (λ (s : List ℕ). begins_with_digit (magnitude s)) d.spelled ∙ spelled_begins delta d.not_zero d.fits in
    let x : true ≡ false = sym yes ∙ ap begins_with_digit (sym m) ∙ sym is ∙ isnt in cc

pub no_text : (value : List ℕ) → (IsUtf8 value → ⊥) → (delta : ℤ) → IsDelta delta value → ⊥
no_text value isnt delta d = isnt (subst (λ (s : List ℕ). IsUtf8 s) (sym d.spelled) (IsUtf8-from_ascii (signed_decimal delta) (IsAscii-signed delta (small delta d.fits))))

pub no_number : {E : Type 0} (value text : List ℕ) (e : E) → text ≡ value → ParsesSigned w64 10 text (Err e) → (delta : ℤ) → IsDelta delta value → ⊥
no_number value text e same p delta d =
    let fits : mag delta < 2 ^ 63 = small delta d.fits in
    let r : Err e ≡ Ok delta = parse-signed_decimal w64 delta text (Err e) (record { sfits = fits }) fits (same ∙ d.spelled) p in cc

-- ---- what is taken

-- digits whose first isn't 0 are what is written of their value, which isn't 0
digits_again : (ds : List ℕ) → AllDigits 10 ds → digits_value 10 ds ≤ 2 ^ 63 → begins_with_digit ds ≡ true → (decimal (digits_value 10 ds) ≡ ds) × (0 < digits_value 10 ds)
digits_again ds all fits b =
    let low = begins_low ds b in
    let some : 0 < length ds = longer ds low.0 in
    let e : decimal (digits_value 10 ds) ≡ ds = decimal-digits_value own ds all some (λ zero_first. absurd (omega (arith, zero_first, low.0))) (omega (arith, fits)) in
    (e, not_zero (digits_value 10 ds) ds e low.0)
  where
    longer : (l : List ℕ) → 48 < get_or l 0 0 → 0 < length l
    longer [] h = absurd (omega (arith, h))
    longer (x ∷ xs) h = omega arith

    not_zero : (n : ℕ) (l : List ℕ) → decimal n ≡ l → 48 < get_or l 0 0 → 0 < n
    not_zero zero l e h = absurd (omega (arith, h, ap (λ (k : List ℕ). get_or k 0 0) (sym e ∙ decimal_digit 0 (omega arith))))
    not_zero (suc n) l e h = omega arith

plain_delta : (value : List ℕ) (n : ℕ) → decimal n ≡ value → 0 < n → n < 2 ^ 63 → IsDelta (pos n) value
plain_delta value zero e some fits = absurd (omega (arith, some))
plain_delta value (suc n) e some fits = record { spelled = sym e; not_zero = λ z. suc_some n z; fits = fits_pos (suc n) fits }
  where
    suc_some : (n : ℕ) → pos (suc n) ≡ pos 0 → ⊥
    suc_some n z = cc

minus_delta : (value ds : List ℕ) (n : ℕ) → value ≡ 45 ∷ ds → decimal n ≡ ds → 0 < n → n ≤ 2 ^ 63 → IsDelta (neg_ℤ (pos n)) value
minus_delta value ds zero v e some fits = absurd (omega (arith, some))
minus_delta value ds (suc n) v e some fits = record { spelled = v ∙ ap (λ (l : List ℕ). 45 ∷ l) (sym e); not_zero = λ z. negative n z; fits = fits_neg n (omega (arith, fits)) }
  where
    negative : (n : ℕ) → negsuc n ≡ pos 0 → ⊥
    negative n z = cc

minus_first : (s : List ℕ) → get_or s 0 0 ≡ 45 → (s ≡ 45 ∷ drop 1 s) × (magnitude s ≡ drop 1 s)
minus_first [] e = absurd (omega (arith, e))
minus_first (x ∷ xs) e = (ap (λ (y : ℕ). y ∷ xs) e, rw e refl)

other_first : (s : List ℕ) → (get_or s 0 0 ≡ 45 → ⊥) → magnitude s ≡ s
other_first [] e = refl
other_first (x ∷ xs) e = if_other (x == 45) (not_same x 45 e)
  where
    not_same : (x y : ℕ) → (x ≡ y → ⊥) → (x == y) ≡ false
    not_same x y e = grind (arith, nat_tests)

    if_other : (b : Bool) → b ≡ false → cond b xs (x ∷ xs) ≡ x ∷ xs
    if_other true e = cc
    if_other false e = refl

plus_first : (s : List ℕ) → begins_with_digit (magnitude s) ≡ true → get_or s 0 0 ≡ 43 → ⊥
plus_first s b e =
    let same : magnitude s ≡ s = other_first s (λ m. absurd (omega (arith, m, e))) in
    let low = begins_low s (ap begins_with_digit (sym same) ∙ b) in
    absurd (omega (arith, low.0, e))

minus_taken : (value : List ℕ) (r : Result ℤ ℕ) (delta : ℤ) → r ≡ Ok delta → ParsesSigned w64 10 value r → begins_with_digit (magnitude value) ≡ true → get_or value 0 0 ≡ 45 → IsDelta delta value
minus_taken value (Ok x) delta same p b minus =
    let q = parse_signed_minus own {E = ℕ} w64 value (Ok x) p minus in
    let s = minus_first value minus in
    let again = digits_again (drop 1 value) q.0.0 q.0.2 (ap begins_with_digit (sym s.1) ∙ b) in
    let is : delta ≡ neg_ℤ (pos (digits_value 10 (drop 1 value))) = cc q.1 in
    subst (λ (z : ℤ). IsDelta z value) (sym is) (minus_delta value (drop 1 value) (digits_value 10 (drop 1 value)) s.0 again.0 again.1 q.0.2)
minus_taken value (Err e) delta same p b minus = cc

plain_taken : (value : List ℕ) (r : Result ℤ ℕ) (delta : ℤ) → r ≡ Ok delta → ParsesSigned w64 10 value r → begins_with_digit (magnitude value) ≡ true → (get_or value 0 0 ≡ 45 → ⊥) → IsDelta delta value
plain_taken value (Ok x) delta same p b other =
    let q = parse_signed_plain own {E = ℕ} w64 value (Ok x) p (plus_first value b) other in
    let again = digits_again value q.0.0 (omega (arith, q.0.2)) (ap begins_with_digit (sym (other_first value other)) ∙ b) in
    let is : delta ≡ pos (digits_value 10 value) = cc q.1 in
    subst (λ (z : ℤ). IsDelta z value) (sym is) (plain_delta value (digits_value 10 value) again.0 again.1 q.0.2)
plain_taken value (Err e) delta same p b other = cc

taken : (value : List ℕ) (r : Result ℤ ℕ) (delta : ℤ) → r ≡ Ok delta → ParsesSigned w64 10 value r → begins_with_digit (magnitude value) ≡ true → IsDelta delta value
taken value r delta same p b = elim (cases_eq (get_or value 0 0) 45) [ inl minus ↦ minus_taken value r delta same p b minus | inr other ↦ plain_taken value r delta same p b other ]

pub is_delta : (value text digits : List ℕ) (b : Bool) (delta : ℤ) → text ≡ value → ParsesSigned {E = ℕ} w64 10 text (Ok delta) → digits ≡ magnitude value → b ≡ begins_with_digit digits → b ≡ true → IsDelta (cast_signed w64 (cast_unsigned w64 delta)) value
is_delta value text digits b delta same p m is holds =
    let begun : begins_with_digit (magnitude value) ≡ true = ap begins_with_digit (sym m) ∙ sym is ∙ holds in
    let d = taken value (Ok delta) delta refl (subst (λ (s : List ℕ). ParsesSigned {E = ℕ} w64 10 s (Ok delta)) same p) begun in
    subst (λ (z : ℤ). IsDelta z value) (sym (to_z-of_z w64 delta (record { sfits = small delta d.fits }))) d
