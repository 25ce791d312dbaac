-- The number that bytes stand for, one byte more or fewer.
use Rattle.std.proofs.Common.{◌≡◌, ℕ, zero, suc, ◌+◌, ◌*◌, ◌%◌, ◌^◌, ◌<◌, ◌≤◌, List, [], ◌∷◌, ◌++◌, length, get_or, take, refl, arith}
use Rattle.std.proofs.Math.Nat.{pow-suc}
use Rattle.std.proofs.lemmas.List.{take_more, length-take}
use Rattle.leb_collections.specs.Leb128.{value_of}

-- shifting by seven bits a place weighs by a power of 128
pub weight : (place b : ℕ) → place ≤ 4 → (place ≡ 4 → b ≤ 15) →
    (b % 128 * 2 ^ (7 * place)) % 2 ^ 32 ≡ b % 128 * 128 ^ place
weight zero b few fits = omega arith
weight (suc zero) b few fits = omega arith
weight (suc (suc zero)) b few fits = omega arith
weight (suc (suc (suc zero))) b few fits = omega arith
weight (suc (suc (suc (suc zero)))) b few fits = let low : b ≤ 15 = fits refl in omega arith
weight (suc (suc (suc (suc (suc n))))) b few fits = absurd (omega arith)

-- one more byte at the end
pub value-append : (xs : List ℕ) (b : ℕ) →
    value_of (xs ++ b ∷ []) ≡ value_of xs + 128 ^ length xs * (b % 128)
value-append [] b = omega arith
value-append (x ∷ xs) b = rw pow-suc (omega (arith, value-append xs b))

-- bytes stand for a number of seven bits each
pub value_below : (xs : List ℕ) → value_of xs < 128 ^ length xs
value_below [] = omega arith
value_below (x ∷ xs) = rw pow-suc (omega (arith, value_below xs))

-- the value of one more byte of a list
pub value_more : (xs : List ℕ) (i : ℕ) → i < length xs →
    value_of (take (i + 1) xs) ≡ value_of (take i xs) + get_or xs i 0 % 128 * 128 ^ i
value_more xs i lt =
    let len : length (take i xs) ≡ i = omega (arith, length-take i xs) in
    rw (take_more xs i 0 lt, value-append (take i xs) (get_or xs i 0), len) (omega arith)

-- what has been read fits the places read
pub value_taken : (xs : List ℕ) (i : ℕ) → i ≤ length xs → value_of (take i xs) < 128 ^ i
value_taken xs i le =
    let len : length (take i xs) ≡ i = omega (arith, length-take i xs) in
    rw len at (value_below (take i xs))

-- seven bits fit beside those of the bytes before, where a fifth byte has four bits alone
pub sum_fits : (place b low : ℕ) → place ≤ 4 → (place ≡ 4 → b ≤ 15) → low < 128 ^ place →
    low + b % 128 * 128 ^ place < 2 ^ 32
sum_fits zero b low few fits below = omega arith
sum_fits (suc zero) b low few fits below = omega arith
sum_fits (suc (suc zero)) b low few fits below = omega arith
sum_fits (suc (suc (suc zero))) b low few fits below = omega arith
sum_fits (suc (suc (suc (suc zero)))) b low few fits below =
    let four_bits : b ≤ 15 = fits refl in omega arith
sum_fits (suc (suc (suc (suc (suc n))))) b low few fits below = absurd (omega arith)
