-- What is told of bytes when more follows, and how many may be missing.
use Rattle.std.proofs.Common.{◌≡◌, ℕ, ◌+◌, ◌-◌, ◌<◌, ◌≤◌, List, ◌++◌, length, take, drop, slice_index, refl, sym, ap, subst, ◌∙◌, arith, inl, inr, length-append}
use Rattle.std.proofs.lemmas.List.{take-append-le, drop-append-le, get_or_append_left, length-drop}
use Rattle.std.specs.Int.{w32, from_be_bytes}
use Rattle.kv_frame.specs.declared.frame.TheConstants.{HEADER_LENGTH, BODY_LIMIT}
use Rattle.kv_frame.specs.declared.frame.Side.{Side}
use Rattle.kv_frame.specs.declared.frame.Magic.{Magic}
use Rattle.kv_frame.specs.declared.frame.Magic.TheVariants as magics
use Rattle.kv_frame.specs.declared.judging.Fault.{Fault}
use Rattle.kv_frame.specs.declared.judging.Fault.TheVariants as faults
use Rattle.kv_frame.specs.Judging.{HasMagic, stated_framing, stated_sum, stated_body, IsGoodHeader, GoesWrongAt, IsBad, Lacks}

-- a part of the header is the same when more follows
same_part : (from count : ℕ) (bytes more : List ℕ) → from + count ≤ length bytes → take count (drop from (bytes ++ more)) ≡ take count (drop from bytes)
same_part from count bytes more room =
    let a : drop from (bytes ++ more) ≡ drop from bytes ++ more = drop-append-le from bytes more (omega arith) in
    ap (take count) a ∙ take-append-le count (drop from bytes) more (omega (arith, length-drop from bytes))

same_byte : (i : ℕ) (bytes more : List ℕ) → i < length bytes → slice_index (bytes ++ more) i ≡ slice_index bytes i
same_byte i bytes more lt = get_or_append_left bytes more 0 i lt

same_sum : (magic : Magic) (bytes more : List ℕ) → HEADER_LENGTH ≤ length bytes → stated_sum magic (bytes ++ more) ≡ stated_sum magic bytes
same_sum magics.Request bytes more long = rw (same_byte 4 bytes more (omega arith), same_part 2 2 bytes more (omega arith)) refl
same_sum magics.FlexRequest bytes more long = rw (same_byte 2 bytes more (omega arith), same_byte 3 bytes more (omega arith), same_byte 4 bytes more (omega arith)) refl
same_sum magics.Reply bytes more long = rw (same_byte 4 bytes more (omega arith), same_part 2 2 bytes more (omega arith)) refl
same_sum magics.FlexReply bytes more long = rw (same_byte 2 bytes more (omega arith), same_byte 3 bytes more (omega arith), same_byte 4 bytes more (omega arith)) refl

pub same_body : (bytes more : List ℕ) → HEADER_LENGTH ≤ length bytes → stated_body (bytes ++ more) ≡ stated_body bytes
same_body bytes more long = ap (from_be_bytes w32) (same_part 8 4 bytes more (omega arith))

still_good : (side : Side) (bytes more : List ℕ) (magic : Magic) → IsGoodHeader side bytes magic → IsGoodHeader side (bytes ++ more) magic
still_good side bytes more magic good =
    let body = same_body bytes more good.whole in
    let total = same_sum magic bytes more good.whole in
    let long = good.whole in
    record {
      whole = omega (arith, good.whole, length-append bytes more);
      stated = record { of_side = good.stated.of_side; first = same_byte 0 bytes more (omega (arith, long)) ∙ good.stated.first };
      sum = rw (total, body) good.sum;
      small = rw body good.small;
    }

same_framing : (magic : Magic) (bytes more : List ℕ) → HEADER_LENGTH ≤ length bytes → stated_framing magic (bytes ++ more) ≡ stated_framing magic bytes
same_framing magics.Request bytes more long = refl
same_framing magics.FlexRequest bytes more long = same_byte 2 bytes more (omega arith)
same_framing magics.Reply bytes more long = refl
same_framing magics.FlexReply bytes more long = same_byte 2 bytes more (omega arith)

framing_within : (magic : Magic) (bytes : List ℕ) → stated_framing magic bytes ≤ stated_sum magic bytes
framing_within magic bytes = omega arith

still_stated : (side : Side) (bytes more : List ℕ) (magic : Magic) → HEADER_LENGTH ≤ length bytes → HasMagic side bytes magic → HasMagic side (bytes ++ more) magic
still_stated side bytes more magic long has = record { of_side = has.of_side; first = same_byte 0 bytes more (omega arith) ∙ has.first }

-- what is wrong with bytes stays wrong when more follows
pub still_bad : (side : Side) (bytes more : List ℕ) (place : ℕ) (fault : Fault) → IsBad side bytes place fault → IsBad side (bytes ++ more) place fault
still_bad side bytes more place faults.Magic (long, at, none) = (
  omega (arith, long, length-append bytes more),
  at,
  λ magic has. none magic (record { of_side = has.of_side; first = sym (same_byte 0 bytes more (omega (arith, long))) ∙ has.first }),
)
still_bad side bytes more place faults.Lengths (long, at, magic, has, less) = (
  omega (arith, long, length-append bytes more),
  at,
  magic,
  still_stated side bytes more magic long has,
  rw (same_body bytes more long, same_sum magic bytes more long) less,
)
still_bad side bytes more place faults.TooBig (long, at, magic, has, less) = (
  omega (arith, long, length-append bytes more),
  at,
  magic,
  still_stated side bytes more magic long has,
  rw (same_body bytes more long) less,
)
still_bad side bytes more place faults.Extra (magic, good, whole, offset, at, wrong) =
    let size : ℕ = stated_framing magic bytes in
    let room : HEADER_LENGTH + size ≤ length bytes = omega (arith, whole, good.sum, framing_within magic bytes) in
    let same : take (stated_framing magic (bytes ++ more)) (drop HEADER_LENGTH (bytes ++ more)) ≡ take size (drop HEADER_LENGTH bytes) =
    ap (λ (n : ℕ). take n (drop HEADER_LENGTH (bytes ++ more))) (same_framing magic bytes more good.whole) ∙ same_part HEADER_LENGTH size bytes more room in (
      magic,
      still_good side bytes more magic good,
      omega (arith, whole, same_body bytes more good.whole, length-append bytes more),
      offset,
      at,
      subst (λ (l : List ℕ). GoesWrongAt l offset) (sym same) wrong,
    )

-- fewer are missing when fewer than were missing are added
pub lacks_fewer : (side : Side) (bytes more : List ℕ) (n : ℕ) → Lacks side bytes n → length more < n → Lacks side (bytes ++ more) (n - length more)
lacks_fewer side bytes more n (inl few) lt = inl (omega arith, omega (arith, few.1, length-append bytes more))
lacks_fewer side bytes more n (inr (magic, good, some, sum)) lt =
    inr (magic, still_good side bytes more magic good, omega arith, omega (arith, sum, same_body bytes more good.whole, length-append bytes more))

-- what is missing is within the limit
pub lacks_bounded : (side : Side) (bytes : List ℕ) (n : ℕ) → Lacks side bytes n → length bytes + n ≤ HEADER_LENGTH + BODY_LIMIT
lacks_bounded side bytes n (inl few) = omega (arith, few.1)
lacks_bounded side bytes n (inr (magic, good, some, sum)) = omega (arith, sum, good.small)
