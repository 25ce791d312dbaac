-- What a crash leaves of a device that was settled, or was written or cut once since.
use Rattle.std.proofs.Common.{◌≡◌, inl, inr, ℕ, ◌+◌, ◌-◌, ◌<◌, ◌≤◌, List, length, take, drop, refl, sym, ◌∙◌, arith, length-take, length-drop, get_or-take, get_or-drop}
use Rattle.std.proofs.lemmas.Bool.{cases_lt}
use Rattle.std.proofs.lemmas.List.{ext_get_or}
use Rattle.magma_disk.specs.Device.{IsImage, settled, Torn, written, StaysAt}
use Rattle.magma_disk.proofs.Bytes.{grown_none, grown_some, grown_least}

-- where the last byte stays, the rest isn't shorter
last_stays : (old new : List ℕ) → (0 < length old → StaysAt (length old - 1) old new) → length old ≤ length new
last_stays old new last = elim (cases_lt 0 (length old)) [ inl some ↦ omega (arith, (last some).0) | inr none ↦ omega arith ]

pub settled_only : (file image : List ℕ) → IsImage (settled file) image → image ≡ file
settled_only file image left =
    let least = last_stays file image (λ some. left.stays (length file - 1) (omega arith) tt) in
    let most = left.no_longer in
    let len : length image ≡ length file = omega arith in
    ext_get_or 0 image file len (λ i low. (left.stays i (omega arith) tt).1)

-- all that was written stands in each image but the range of the last write
pub torn_image : (at n : ℕ) (file bytes image : List ℕ) → Torn at n file bytes → IsImage (written at n bytes (settled file)) image → Torn at n file image
torn_image at n file bytes image torn left =
    let most = left.no_longer in
    let least = grown_least at n (length file) in
    record {
      no_longer = omega arith;
      stays = λ i low beside.
          let now = left.stays i low (beside, tt) in
          let before = torn.stays i low beside in
          (now.0, now.1 ∙ before.1);
    }

-- a write that did nothing
pub torn_same : (at n : ℕ) (file : List ℕ) → Torn at n file file
torn_same at n file = record { no_longer = grown_least at n (length file); stays = λ i low beside. (low, refl) }

-- what is in front of a torn write stays
pub torn_front : (at n : ℕ) (old new : List ℕ) → at ≤ length old → Torn at n old new → take at new ≡ take at old
torn_front at n old new within torn =
    let long : at ≤ length new = elim (cases_lt 0 at) [
      | inl some ↦ omega (arith, (torn.stays (at - 1) (omega arith) (inl (omega arith))).0)
      | inr none ↦ omega arith
    ] in
    let len : length (take at new) ≡ length (take at old) = omega (arith, length-take at new, length-take at old) in
    ext_get_or 0 (take at new) (take at old) len
    (λ i low.
    let below : i < at = omega (arith, length-take at new) in
    get_or-take at new i 0 below ∙ (torn.stays i (omega arith) (inl below)).1 ∙ sym (get_or-take at old i 0 below))

-- and what is behind it
pub torn_back : (at n : ℕ) (old new : List ℕ) → at + n ≤ length old → Torn at n old new → drop (at + n) new ≡ drop (at + n) old
torn_back at n old new within torn =
    let most : length new ≤ length old = elim (cases_lt 0 n) [
      | inl some ↦ omega (arith, torn.no_longer, grown_some at n (length old) some)
      | inr none ↦ omega (arith, torn.no_longer, grown_none at n (length old) (omega arith))
    ] in
    let least : length old - (at + n) ≤ length new - (at + n) = elim (cases_lt (at + n) (length old)) [
      | inl some ↦ omega (arith, (torn.stays (length old - 1) (omega arith) (inr (omega arith))).0)
      | inr none ↦ omega arith
    ] in
    let len : length (drop (at + n) new) ≡ length (drop (at + n) old) = omega (arith, length-drop (at + n) new, length-drop (at + n) old) in
    ext_get_or 0 (drop (at + n) new) (drop (at + n) old) len
    (λ i low.
    let inside : at + n + i < length old = omega (arith, length-drop (at + n) old) in
    get_or-drop (at + n) new i 0 ∙ (torn.stays (at + n + i) inside (inr (omega arith))).1 ∙ sym (get_or-drop (at + n) old i 0))
