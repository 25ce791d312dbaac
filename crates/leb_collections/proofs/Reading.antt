-- What a reader knows at each byte, and what it answers.
use Rattle.std.proofs.Common.{◌≡◌, ℕ, ◌+◌, ◌-◌, ◌*◌, ◌%◌, ◌^◌, ◌<◌, ◌≤◌, List, ◌++◌, length, get_or, take, refl, arith}
use Rattle.std.proofs.lemmas.List.{take_at}
use Rattle.leb_collections.specs.Leb128.{AreBytes, value_of, AllContinue, IsShortest, IsLong, IsNotShortest}
use Rattle.leb_collections.proofs.Values.{value_more, value_taken, sum_fits}
use Rattle.leb_collections.proofs.Ends.{Ends, Ends-same, Ends-not_long, Ends-not_padded, IsShortest-from_end, Ends-from_spelling}

-- what a reader knows before the byte at a place
pub record IsReadTo (bytes : List ℕ) (place id : ℕ) : Type 0 where
  pub few : place ≤ 4
  pub continued : AllContinue place bytes
  pub valued : id ≡ value_of (take place bytes)

pub read_fits : (bytes : List ℕ) (place id : ℕ) → IsReadTo bytes place id → place < length bytes →
    (place ≡ 4 → get_or bytes place 0 ≤ 15) →
    id + get_or bytes place 0 % 128 * 128 ^ place < 2 ^ 32
read_fits bytes place id read there fits =
    let below : id < 128 ^ place = rw read.valued (value_taken bytes place (omega arith)) in
    sum_fits place (get_or bytes place 0) id read.few fits below

-- what is read, once the byte at a place has no top bit and isn't a 00 too many
pub read_found : (bytes : List ℕ) (place id : ℕ) → AreBytes bytes → IsReadTo bytes place id →
    Ends bytes place →
    IsShortest (id + get_or bytes place 0 % 128 * 128 ^ place) (take (place + 1) bytes)
read_found bytes place id each read e =
    IsShortest-from_end bytes place (id + get_or bytes place 0 % 128 * 128 ^ place) each e (rw (value_more bytes place e.there, read.valued) refl)

-- the spelling at the front is the one that ends at this place
pub only_end : (bytes : List ℕ) (place n : ℕ) (s rest : List ℕ) → Ends bytes place →
    IsShortest n s → bytes ≡ s ++ rest →
    (n ≡ value_of (take (place + 1) bytes)) × (length s ≡ place + 1)
only_end bytes place n s rest e is parts =
    let same : length s - 1 ≡ place =
    Ends-same bytes (length s - 1) place (Ends-from_spelling n s rest bytes is parts) e in
    let some : 1 ≤ length s = is.nonempty in
    let len : length s ≡ place + 1 = omega arith in
    let front : take (place + 1) bytes ≡ s = rw parts (take_at s rest (place + 1) len) in
    (rw front is.valued, len)

-- a fault and a spelling exclude each other
pub not_padded : (bytes : List ℕ) (n : ℕ) (s rest : List ℕ) → IsNotShortest bytes → IsShortest n s →
    bytes ≡ s ++ rest → ⊥
not_padded bytes n s rest padded is parts =
    Ends-not_padded bytes (length s - 1) (Ends-from_spelling n s rest bytes is parts) padded

pub not_long : (bytes : List ℕ) (n : ℕ) (s rest : List ℕ) → IsLong bytes → IsShortest n s →
    bytes ≡ s ++ rest → ⊥
not_long bytes n s rest long is parts =
    Ends-not_long bytes (length s - 1) (Ends-from_spelling n s rest bytes is parts) long
