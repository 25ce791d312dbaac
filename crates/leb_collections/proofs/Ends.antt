-- Where a spelling at the front of some bytes ends.
use Rattle.std.proofs.Common.{◌≡◌, ℕ, ◌+◌, ◌-◌, ◌*◌, ◌%◌, ◌^◌, ◌<◌, ◌≤◌, List, ◌++◌, length, get_or, take, sym, ap, ◌∙◌, inl, inr, arith}
use Rattle.std.proofs.lemmas.Bool.{cases_lt}
use Rattle.std.proofs.lemmas.List.{take_all, length-take, length-append, get_or-take, get_or_past, get_or_append_left}
use Rattle.leb_collections.specs.Leb128.{AreBytes, value_of, AllContinue, IsShortest, IsShort, IsLong, IsNotShortest}
use Rattle.leb_collections.proofs.Values.{value_more, value_taken, sum_fits}

-- The byte at this place is the first without the top bit, and a shortest spelling ends there.
pub record Ends (bytes : List ℕ) (place : ℕ) : Type 0 where
  pub there : place < length bytes
  pub few : place ≤ 4
  pub continued : AllContinue place bytes
  pub ended : get_or bytes place 0 < 128
  pub shortest : get_or bytes place 0 ≡ 0 → place ≡ 0
  pub fits : place ≡ 4 → get_or bytes place 0 ≤ 15

-- bytes with the top bit end before a byte that lacks it
pub no_later : (bytes : List ℕ) (count place : ℕ) → AllContinue count bytes →
    get_or bytes place 0 < 128 → count ≤ place
no_later bytes count place continued ended =
    elim (cases_lt place count) [ inl lt ↦ omega (arith, continued place lt) | inr le ↦ le ]

-- a spelling ends once
pub Ends-same : (bytes : List ℕ) (p q : ℕ) → Ends bytes p → Ends bytes q → p ≡ q
Ends-same bytes p q e f =
    omega (arith, no_later bytes p q e.continued f.ended, no_later bytes q p f.continued e.ended)

pub Ends-not_short : (bytes : List ℕ) (p : ℕ) → Ends bytes p → IsShort bytes → ⊥
Ends-not_short bytes p e s = omega (arith, no_later bytes (length bytes) p s.continued e.ended)

pub Ends-not_long : (bytes : List ℕ) (p : ℕ) → Ends bytes p → IsLong bytes → ⊥
Ends-not_long bytes p e s =
    let is : p ≡ 4 = omega (arith, no_later bytes 4 p s.continued e.ended) in
    let low : get_or bytes 4 0 ≤ 15 = rw is at (e.fits is) in
    omega (arith, s.above)

pub Ends-not_padded : (bytes : List ℕ) (p : ℕ) → Ends bytes p → IsNotShortest bytes → ⊥
Ends-not_padded bytes p e s =
    let zero_byte : get_or bytes s.place 0 ≡ 0 = s.zero_byte in
    let is : s.place ≡ p =
    omega (arith, no_later bytes p s.place e.continued (omega arith), no_later bytes s.place p s.continued e.ended) in
    omega (arith, e.shortest (rw is at zero_byte))

-- ---- spellings and where they end

-- the byte at a place of the first ones
taken : (bytes : List ℕ) (count k : ℕ) → k < count →
    get_or (take count bytes) k 0 ≡ get_or bytes k 0
taken bytes count k lt = get_or-take count bytes k 0 lt

bytes_taken : (bytes : List ℕ) (count : ℕ) → AreBytes bytes → AreBytes (take count bytes)
bytes_taken bytes count each k =
    elim (cases_lt k count) [
      | inl lt ↦ rw (get_or-take count bytes k 0 lt) (each k)
      | inr le ↦ rw (get_or_past (take count bytes) k 0 (omega (arith, length-take count bytes))) (omega arith)
    ]

-- the value of what ends at this place is below 2 ^ 32
pub value_fits : (bytes : List ℕ) (place : ℕ) → Ends bytes place →
    value_of (take (place + 1) bytes) < 2 ^ 32
value_fits bytes place e =
    rw (value_more bytes place e.there) (sum_fits place (get_or bytes place 0) _ e.few e.fits (value_taken bytes place (omega arith)))

-- what ends at a place is the shortest spelling of its value
pub IsShortest-from_end : (bytes : List ℕ) (place n : ℕ) → AreBytes bytes → Ends bytes place →
    n ≡ value_of (take (place + 1) bytes) → IsShortest n (take (place + 1) bytes)
IsShortest-from_end bytes place n each e valued =
    let len : length (take (place + 1) bytes) ≡ place + 1 =
    omega (arith, length-take (place + 1) bytes) in
    let last_place : length (take (place + 1) bytes) - 1 ≡ place = omega arith in
    let last : get_or (take (place + 1) bytes) (length (take (place + 1) bytes) - 1) 0 ≡ get_or bytes place 0 =
    rw last_place (taken bytes (place + 1) place (omega arith)) in
    record {
      in_range = rw valued (value_fits bytes place e);
      nonempty = omega arith;
      at_most_five = omega arith;
      each_a_byte = bytes_taken bytes (place + 1) each;
      valued = valued;
      continued = λ k lt. rw (taken bytes (place + 1) k (omega arith)) (e.continued k (omega arith));
      ended = rw last e.ended;
      shortest = λ nil. let at_first : place ≡ 0 = e.shortest (sym last ∙ nil) in omega arith;
    }

-- a fifth byte has four bits at most
fifth_fits : (n : ℕ) (s : List ℕ) → IsShortest n s → length s ≡ 5 → get_or s 4 0 ≤ 15
fifth_fits n s is five =
    let ended : get_or s (length s - 1) 0 < 128 = is.ended in
    let last_place : length s - 1 ≡ 4 = omega arith in
    let ended4 : get_or s 4 0 < 128 = rw last_place at ended in
    let valued : n ≡ value_of s = is.valued in
    let more : value_of (take (4 + 1) s) ≡ value_of (take 4 s) + get_or s 4 0 % 128 * 128 ^ 4 =
    value_more s 4 (omega arith) in
    let whole : take (4 + 1) s ≡ s = take_all 5 s (omega arith) in
    let v : value_of s ≡ value_of (take 4 s) + get_or s 4 0 % 128 * 128 ^ 4 =
    ap value_of (sym whole) ∙ more in
    omega (arith, is.in_range)

-- a spelling at the front ends there
pub Ends-from_spelling : (n : ℕ) (s rest bytes : List ℕ) → IsShortest n s → bytes ≡ s ++ rest →
    Ends bytes (length s - 1)
Ends-from_spelling n s rest bytes is parts =
    let some : 1 ≤ length s = is.nonempty in
    let at : (k : ℕ) → k < length s → get_or bytes k 0 ≡ get_or s k 0 =
    λ k lt. rw parts (get_or_append_left s rest 0 k lt) in
    let last : get_or bytes (length s - 1) 0 ≡ get_or s (length s - 1) 0 =
    at (length s - 1) (omega arith) in
    record {
      there = rw parts (omega (arith, length-append s rest));
      few = omega (arith, is.at_most_five);
      continued = λ k lt. rw (at k (omega arith)) (is.continued k lt);
      ended = rw last is.ended;
      shortest = λ nil. let one : length s ≡ 1 = is.shortest (sym last ∙ nil) in omega arith;
      fits = λ four. let fifth : get_or s 4 0 ≤ 15 = fifth_fits n s is (omega arith) in rw (last, four) fifth;
    }
