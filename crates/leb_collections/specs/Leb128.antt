-- Unsigned LEB128 for numbers below 2 ^ 32, each in its shortest spelling.
use Rattle.std.specs.Prelude.{◌≡◌, ℕ, ◌+◌, ◌-◌, ◌*◌, ◌%◌, ◌^◌, ◌<◌, ◌≤◌, List, [], ◌∷◌, length, slice_index}

-- The number that bytes stand for: each brings seven bits, the lowest first.
abbrev pub value_of : List ℕ → ℕ
value_of [] = 0
value_of (b ∷ bs) = b % 128 + 128 * value_of bs

-- Each is a byte. Past the end `slice_index` is 0.
abbrev pub AreBytes : List ℕ → Type 0
AreBytes bytes = (k : ℕ) → slice_index bytes k < 256

-- a byte with the top bit, which says that another byte follows
abbrev pub Continues : ℕ → Type 0
Continues b = 128 ≤ b

-- The first `count` bytes have the top bit. They are there, since past the end `slice_index` is 0.
abbrev pub AllContinue : ℕ → List ℕ → Type 0
AllContinue count bytes = (k : ℕ) → k < count → Continues (slice_index bytes k)

-- the last byte of some
abbrev pub last_of : List ℕ → ℕ
last_of bytes = slice_index bytes (length bytes - 1)

-- These bytes, all of them, are the shortest spelling of the number n.
pub record IsShortest (n : ℕ) (bytes : List ℕ) : Type 0 where
  pub in_range : n < 2 ^ 32
  pub nonempty : 1 ≤ length bytes
  pub at_most_five : length bytes ≤ 5
  pub each_a_byte : AreBytes bytes
  pub valued : n ≡ value_of bytes
  -- all bytes but the last have the top bit, and the last has not
  pub continued : AllContinue (length bytes - 1) bytes
  pub ended : last_of bytes < 128
  -- a longer spelling doesn't end with 0
  pub shortest : last_of bytes ≡ 0 → length bytes ≡ 1

-- The bytes run out while each still announces another; so do no bytes at all.
pub record IsShort (bytes : List ℕ) : Type 0 where
  pub at_most_four : length bytes ≤ 4
  pub continued : AllContinue (length bytes) bytes

-- Four bytes announce another, and the fifth brings more than the four bits that are left of 32.
pub record IsLong (bytes : List ℕ) : Type 0 where
  pub fifth : 5 ≤ length bytes
  pub continued : AllContinue 4 bytes
  pub above : 15 < slice_index bytes 4

-- A spelling of two to five bytes ends with 00 at this place, so one byte less would do.
pub record IsNotShortest (bytes : List ℕ) : Type 0 where
  pub place : ℕ
  pub second : 1 ≤ place
  pub at_most_fifth : place ≤ 4
  pub there : place < length bytes
  pub continued : AllContinue place bytes
  pub zero_byte : slice_index bytes place ≡ 0
