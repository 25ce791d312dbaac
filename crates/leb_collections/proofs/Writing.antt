-- What a writer has written, and what is left.
use Rattle.std.proofs.Common.{◌≡◌, ℕ, zero, suc, ◌+◌, ◌*◌, ◌/◌, ◌%◌, ◌^◌, ◌<◌, ◌≤◌, ◌≢◌, List, length, get_or, set, take, drop, sym, ap, ◌∙◌, inl, inr, arith, add-one}
use Rattle.std.proofs.Math.Nat.{pow-suc}
use Rattle.std.proofs.lemmas.Bool.{cases_lt, cases_eq}
use Rattle.std.proofs.lemmas.List.{take_more_set, drop-set-lt, drop-drop, get_or-set_same, get_or-set_other, length-take, length-set, get_or_past}
use Rattle.leb_collections.specs.Leb128.{AreBytes, value_of, AllContinue, IsShortest}
use Rattle.leb_collections.proofs.Values.{value-append}
use Rattle.leb_collections.proofs.Ends.{IsShortest-from_end}

-- what stands in `out` while `rest` of the number is still to be written
pub record IsWrittenTo (id : ℕ) (before out : List ℕ) (used rest : ℕ) : Type 0 where
  pub few : used ≤ 4
  pub continued : AllContinue used out
  pub valued : value_of (take used out) + rest * 128 ^ used ≡ id
  pub nonzero : 0 < used → 0 < rest
  pub kept : drop used out ≡ drop used before
  pub each_a_byte : AreBytes out

-- a number of 32 bits that has more than seven left has room for another byte
pub room : (used rest low : ℕ) → used ≤ 4 → 128 ≤ rest → low + rest * 128 ^ used < 2 ^ 32 → used ≤ 3
room zero rest low few more below = omega arith
room (suc zero) rest low few more below = omega arith
room (suc (suc zero)) rest low few more below = omega arith
room (suc (suc (suc zero))) rest low few more below = omega arith
room (suc (suc (suc (suc zero)))) rest low few more below = absurd (omega arith)
room (suc (suc (suc (suc (suc n))))) rest low few more below = absurd (omega arith)

-- the value of the bytes so far, with one more
pub value_set : (out : List ℕ) (used b : ℕ) → used < length out →
    value_of (take (used + 1) (set out used b)) ≡ value_of (take used out) + b % 128 * 128 ^ used
value_set out used b lt =
    let len : length (take used out) ≡ used = omega (arith, length-take used out) in
    rw (take_more_set out used b lt, value-append (take used out) b, len) (omega arith)

continued_set : (out : List ℕ) (used b : ℕ) → used < length out → 128 ≤ b → AllContinue used out →
    AllContinue (used + 1) (set out used b)
continued_set out used b lt top continued k below =
    elim (cases_lt k used) [
      | inl sooner ↦ let other : k ≢ used = omega arith in rw (get_or-set_other out used k b 0 other) (continued k sooner)
      | inr le ↦ let is : k ≡ used = omega arith in rw (is, get_or-set_same out used b 0 lt) top
    ]

kept_set : (before out : List ℕ) (used b : ℕ) → drop used out ≡ drop used before →
    drop (used + 1) (set out used b) ≡ drop (used + 1) before
kept_set before out used b kept =
    drop-set-lt (used + 1) out used b (omega arith) ∙ sym (drop-drop 1 used out) ∙ ap (drop 1) kept ∙ drop-drop 1 used before

-- seven bits of a number in one byte, and the others as a number of their own
regroup : (rest p low now : ℕ) → now ≡ low + (rest % 128 + 128) % 128 * p →
    now + rest / 128 * (p * 128) ≡ low + rest * p
regroup rest p low now e =
    let digit : (rest % 128 + 128) % 128 ≡ rest % 128 = omega arith in
    let whole : rest ≡ rest / 128 * 128 + rest % 128 = omega arith in
    rw (e, digit) (spread (rest / 128) (rest % 128) p low rest whole)
  where
    spread : (q m p low r : ℕ) → r ≡ q * 128 + m → low + m * p + q * (p * 128) ≡ low + r * p
    spread q m p low r e = rw e (omega arith)

bytes_set : (out : List ℕ) (used b : ℕ) → b < 256 → AreBytes out → AreBytes (set out used b)
bytes_set out used b fits each k =
    elim (cases_lt k (length out)) [
      | inl within ↦
          elim (cases_eq k used) [
            | inl is ↦ let there : used < length out = omega arith in rw (is, get_or-set_same out used b 0 there) fits
            | inr other ↦ rw (get_or-set_other out used k b 0 other) (each k)
          ]
      | inr past ↦ rw (get_or_past (set out used b) k 0 (omega (arith, length-set out used b))) (omega arith)
    ]

-- one more byte with the top bit
pub written_more : (id : ℕ) (before out : List ℕ) (used rest : ℕ) → id < 2 ^ 32 →
    used < length out → 128 ≤ rest → IsWrittenTo id before out used rest →
    IsWrittenTo id before (set out used (rest % 128 + 128)) (used + 1) (rest / 128)
written_more id before out used rest fits lt more w =
    let below : value_of (take used out) + rest * 128 ^ used < 2 ^ 32 = rw w.valued fits in
    let few : used ≤ 3 = room used rest (value_of (take used out)) w.few more below in
    record {
      few = omega arith;
      continued = continued_set out used (rest % 128 + 128) lt (omega arith) w.continued;
      valued = rw (add-one, pow-suc) (regroup rest (128 ^ used) (value_of (take used out)) _ (rw add-one at (value_set out used (rest % 128 + 128) lt)) ∙ w.valued);
      nonzero = λ _. omega arith;
      kept = kept_set before out used (rest % 128 + 128) w.kept;
      each_a_byte = bytes_set out used (rest % 128 + 128) (omega arith) w.each_a_byte;
    }

-- the last byte
pub written : (id : ℕ) (before out : List ℕ) (used rest : ℕ) → id < 2 ^ 32 → used < length out →
    rest < 128 → IsWrittenTo id before out used rest →
    IsShortest id (take (used + 1) (set out used rest))
written id before out used rest fits lt last w =
    let low : rest % 128 ≡ rest = omega arith in
    let valued : value_of (take (used + 1) (set out used rest)) ≡ id =
    rw (value_set out used rest lt, low) w.valued in
    let same : get_or (set out used rest) used 0 ≡ rest = get_or-set_same out used rest 0 lt in
    IsShortest-from_end (set out used rest) used id (bytes_set out used rest (omega arith) w.each_a_byte) (record {
      there = rw length-set lt;
      few = w.few;
      continued = λ k sooner. let other : k ≢ used = omega arith in rw (get_or-set_other out used k rest 0 other) (w.continued k sooner);
      ended = rw same last;
      shortest = λ nil. let none : rest ≡ 0 = sym same ∙ nil in elim (cases_lt 0 used) [ inl later ↦ omega (arith, w.nonzero later) | inr first ↦ omega arith ];
      fits = λ four. rw same (four_bits used rest (value_of (take used out)) four (rw w.valued fits));
    }) (sym valued)
  where
    four_bits : (used rest low : ℕ) → used ≡ 4 → low + rest * 128 ^ used < 2 ^ 32 → rest ≤ 15
    four_bits used rest low is below = let below4 : low + rest * 128 ^ 4 < 2 ^ 32 = rw is at below in omega arith
