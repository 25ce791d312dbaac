-- A number at the front of bytes is one number.
use Rattle.std.specs.Prelude.{◌≡◌, ℕ, ◌<◌, ◌^◌, List, ◌++◌, length, Some, refl}
use Rattle.std.specs.Int.{Width, w16, w32, w64, to_be_bytes}
use Rattle.std.proofs.Common.{sym, ap, ◌∙◌}
use Rattle.kv_edge.specs.Fields.{IsBytes, number_at}
use Rattle.kv_edge.proofs.Fields.{IsWide, wide16, wide32, wide64, number_takes, number_again}
use Rattle.repl_wire.specs.Layout.{Size, one, two, four, eight, bytes_in, limit_of, digits, NumberAt}

-- ---- what is read

pub two_there : (bytes : List ℕ) (n : ℕ) (rest : List ℕ) → IsBytes bytes → number_at w16 bytes ≡ Some (n, rest) → NumberAt two bytes n rest
two_there bytes n rest fits e = let t = number_takes w16 (2 ^ 16) wide16 bytes n rest fits e in record { front = t.0.parts; small = t.1 }

pub four_there : (bytes : List ℕ) (n : ℕ) (rest : List ℕ) → IsBytes bytes → number_at w32 bytes ≡ Some (n, rest) → NumberAt four bytes n rest
four_there bytes n rest fits e = let t = number_takes w32 (2 ^ 32) wide32 bytes n rest fits e in record { front = t.0.parts; small = t.1 }

pub eight_there : (bytes : List ℕ) (n : ℕ) (rest : List ℕ) → IsBytes bytes → number_at w64 bytes ≡ Some (n, rest) → NumberAt eight bytes n rest
eight_there bytes n rest fits e = let t = number_takes w64 (2 ^ 64) wide64 bytes n rest fits e in record { front = t.0.parts; small = t.1 }

-- ---- one number

pub record Same {A : Type 0} (a b : A) (r s : List ℕ) : Type 0 where
  pub same : a ≡ b
  pub rest : r ≡ s

pair_is : (a c : ℕ) (b d : List ℕ) → Some (let p : ℕ × List ℕ = (a, b) in p) ≡ Some (let p : ℕ × List ℕ = (c, d) in p) → Same a c b d
pair_is a c b d e = let same = some_is (let p : ℕ × List ℕ = (a, b) in p) (let p : ℕ × List ℕ = (c, d) in p) e in record { same = ap (λ p. p.0) same; rest = ap (λ p. p.1) same }
  where
    some_is : {A : Type 0} (x y : A) → Some x ≡ Some y → x ≡ y
    some_is x y q = cc

wide_same : (w : Width) (limit : ℕ) → IsWide w limit → (a b : ℕ) (r s : List ℕ) → a < limit → b < limit → to_be_bytes w a ++ r ≡ to_be_bytes w b ++ s → Same a b r s
wide_same w limit wide a b r s low high e =
    pair_is a b r s (sym (number_again w limit wide a r low) ∙ ap (number_at w) e ∙ number_again w limit wide b s high)

pub same_number : (size : Size) (a b : ℕ) (r s : List ℕ) → a < limit_of size → b < limit_of size → digits size a ++ r ≡ digits size b ++ s → Same a b r s
same_number one a b r s low high e = record { same = cc; rest = cc }
same_number two a b r s low high e = wide_same w16 (2 ^ 16) wide16 a b r s low high e
same_number four a b r s low high e = wide_same w32 (2 ^ 32) wide32 a b r s low high e
same_number eight a b r s low high e = wide_same w64 (2 ^ 64) wide64 a b r s low high e

pub number_one : (size : Size) (bytes : List ℕ) (a b : ℕ) (r s : List ℕ) → NumberAt size bytes a r → NumberAt size bytes b s → Same a b r s
number_one size bytes a b r s p q = same_number size a b r s p.small q.small (sym p.front ∙ q.front)

pub digits_length : (size : Size) (n : ℕ) → length (digits size n) ≡ bytes_in size
digits_length one n = refl
digits_length two n = refl
digits_length four n = refl
digits_length eight n = refl
