-- Names and numbers need no escapes.
use Rattle.std.proofs.Common.{◌≡◌, ◌≢◌, ℕ, zero, suc, ◌+◌, ◌/◌, ◌%◌, ◌^◌, ◌<◌, ◌≤◌, Bool, true, false, cond, nat_eq, nat_le, ◌&&◌, ◌||◌, ◌==◌, List, [], ◌∷◌, ◌++◌, length, Some, refl, ap, ap₂, inl, inr, arith, le-leb}
use Rattle.std.proofs.lemmas.Bool.{and_parts, or_cases, leb-true, eqb-true, eqb-false}
use Rattle.std.proofs.lemmas.Fmt.{digits_is_IsNumeral}
use Rattle.std.proofs.Math.Nat.{pow-suc}
use Rattle.std.specs.Char.{digit_value}
use Rattle.std.specs.Fmt.{digits, digits_onto, digit_glyph}
use Rattle.std.specs.List.{list_all}
use Rattle.std.specs.Str.Parse.{AllDigits, digits_value, IsNumeral}
use Rattle.json.specs.Print.{escape, escape_byte}
use Rattle.json.proofs.Printed.Strings.{escape_byte_plain}
use Rattle.manifest_rules.specs.Text.{hex}
use Rattle.manifest_rules.specs.Rules.{is_name_byte, is_name}
use Rattle.manifest_rules.specs.Form.{hex_number}
use Rattle.manifest_rules.proofs.Hex.{list_all-AllDigits}

escape-cons : (x : ℕ) (xs : List ℕ) → escape_byte x ≡ x ∷ [] → escape xs ≡ xs → escape (x ∷ xs) ≡ x ∷ xs
escape-cons x xs first rest = ap₂ (λ a b. a ++ b) first rest

-- ---- names

-- what a byte of a name is not
pub record Between (x : ℕ) : Type 0 where
  pub low : 32 ≤ x
  pub high : x < 128
  pub no_quote : x ≢ 34
  pub no_backslash : x ≢ 92

between : (a b x : ℕ) → (nat_le a x && nat_le x b) ≡ true → (a ≤ x) × (x ≤ b)
between a b x h = let p = and_parts (nat_le a x) (nat_le x b) h in (leb-true a x p.0, leb-true x b p.1)

pub name_byte : (x : ℕ) → is_name_byte x ≡ true → Between x
name_byte x h =
    elim (or_cases ((nat_le 65 x && nat_le x 90) || (nat_le 97 x && nat_le x 122) || (nat_le 48 x && nat_le x 57) || nat_eq x 95 || nat_eq x 45) (nat_eq x 37) h) [
      | inr e ↦ (let is = eqb-true x 37 e in record { low = omega arith; high = omega arith; no_quote = λ q. omega arith; no_backslash = λ q. omega arith })
      | inl a ↦ elim (or_cases ((nat_le 65 x && nat_le x 90) || (nat_le 97 x && nat_le x 122) || (nat_le 48 x && nat_le x 57) || nat_eq x 95) (nat_eq x 45) a) [
        | inr e ↦ (let is = eqb-true x 45 e in record { low = omega arith; high = omega arith; no_quote = λ q. omega arith; no_backslash = λ q. omega arith })
        | inl b ↦ elim (or_cases ((nat_le 65 x && nat_le x 90) || (nat_le 97 x && nat_le x 122) || (nat_le 48 x && nat_le x 57)) (nat_eq x 95) b) [
          | inr e ↦ (let is = eqb-true x 95 e in record { low = omega arith; high = omega arith; no_quote = λ q. omega arith; no_backslash = λ q. omega arith })
          | inl c ↦ elim (or_cases ((nat_le 65 x && nat_le x 90) || (nat_le 97 x && nat_le x 122)) (nat_le 48 x && nat_le x 57) c) [
            | inr e ↦ (let is = between 48 57 x e in record { low = omega arith; high = omega arith; no_quote = λ q. omega arith; no_backslash = λ q. omega arith })
            | inl d ↦ elim (or_cases (nat_le 65 x && nat_le x 90) (nat_le 97 x && nat_le x 122) d) [
              | inr e ↦ (let is = between 97 122 x e in record { low = omega arith; high = omega arith; no_quote = λ q. omega arith; no_backslash = λ q. omega arith })
              | inl e ↦ (let is = between 65 90 x e in record { low = omega arith; high = omega arith; no_quote = λ q. omega arith; no_backslash = λ q. omega arith })
            ]
          ]
        ]
      ]
    ]

plain_byte : (x : ℕ) → Between x → escape_byte x ≡ x ∷ []
plain_byte x b = escape_byte_plain x b.no_quote b.no_backslash b.low

plain_bytes : (name : List ℕ) → list_all is_name_byte name ≡ true → escape name ≡ name
plain_bytes [] h = refl
plain_bytes (x ∷ xs) h = let p = and_parts (is_name_byte x) (list_all is_name_byte xs) h in escape-cons x xs (plain_byte x (name_byte x p.0)) (plain_bytes xs p.1)

pub plain_name : (name : List ℕ) → is_name name ≡ true → escape name ≡ name
plain_name name h = plain_bytes name (and_parts _ (list_all is_name_byte name) h).1

-- ---- hexadecimal numbers

pub hex_byte : (x : ℕ) → digit_value x < 16 → Between x
hex_byte x h = record { low = grind arith; high = grind arith; no_quote = λ q. grind arith; no_backslash = λ q. grind arith }

plain_digits : (ds : List ℕ) → AllDigits 16 ds → escape ds ≡ ds
plain_digits [] h = refl
plain_digits (x ∷ xs) h = escape-cons x xs (plain_byte x (hex_byte x h.0)) (plain_digits xs h.1)

pub numeral : (n : ℕ) → n < 2 ^ 64 → IsNumeral 16 (hex n) × (digits_value 16 (hex n) ≡ n)
numeral n h = digits_is_IsNumeral 16 false (omega arith) (omega arith) n (omega arith)

pub plain_hex : (n : ℕ) → n < 2 ^ 64 → escape (hex n) ≡ hex n
plain_hex n h = plain_digits (hex n) (numeral n h).0.1

-- one digit, and those of a sixteenth
longer : (j k n len m : ℕ) → n < 16 ^ suc j → (n / 16 == 0) ≡ false → ((i : ℕ) → n / 16 < 16 ^ suc i → i < k → len ≤ suc i + suc m) → j < suc k → len ≤ suc j + m
longer zero k n len m small more rest few = let some = eqb-false (n / 16) 0 more in absurd (some (omega arith))
longer (suc i) k n len m small more rest few =
    let wide = pow-suc 16 (suc i) in
    let less : n / 16 < 16 ^ suc i = omega arith in
    let shorter = rest i less (omega arith) in
    omega arith

length-digits_onto : (k j n : ℕ) (acc : List ℕ) → n < 16 ^ suc j → j < k → length (digits_onto k 16 false n acc) ≤ suc j + length acc
length-digits_onto zero j n acc small few = absurd (omega arith)
length-digits_onto (suc k) j n acc small few = by (n / 16 == 0) refl (λ i. length-digits_onto k i (n / 16) (digit_glyph false (n % 16) ∷ acc))
  where
    by : (b : Bool) → (n / 16 == 0) ≡ b → ((i : ℕ) → n / 16 < 16 ^ suc i → i < k → length (digits_onto k 16 false (n / 16) (digit_glyph false (n % 16) ∷ acc)) ≤ suc i + suc (length acc))
        → length (cond b (digit_glyph false (n % 16) ∷ acc) (digits_onto k 16 false (n / 16) (digit_glyph false (n % 16) ∷ acc))) ≤ suc j + length acc
    by true e rest = omega arith
    by false e rest = longer j k n (length (digits_onto k 16 false (n / 16) (digit_glyph false (n % 16) ∷ acc))) (length acc) small e rest few

pub short_hex : (j n : ℕ) → n < 16 ^ suc j → j < 64 → length (hex n) ≤ suc j
unfolding digits
short_hex j n small few = omega (arith, length-digits_onto 64 j n [] small few)

pub hex_number-hex : (most n : ℕ) → n < 2 ^ 64 → length (hex n) ≤ most → hex_number most (hex n) ≡ Some n
hex_number-hex most n h short =
    let p = numeral n h in
    rw (le-leb 1 (length (hex n)) p.0.0, le-leb (length (hex n)) most short, list_all-AllDigits (hex n) p.0.1) (ap Some p.1)
