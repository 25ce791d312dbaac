-- The bytes that a write or a cut makes of others.
use Rattle.std.proofs.Common.{◌≡◌, inl, inr, ℕ, ◌+◌, ◌-◌, ◌<◌, ◌≤◌, min, max, List, [], ◌∷◌, ◌++◌, length, take, drop, replicate, get_or, sym, ◌∙◌, ap, subst, arith, length-append, length-take, length-drop, get_or-take, get_or-drop}
use Rattle.std.proofs.lemmas.Bool.{cases_lt}
use Rattle.std.proofs.lemmas.Bool.Decides.{nat_tests}
use Rattle.std.proofs.lemmas.List.{get_or_append_left, get_or-append_right, length-replicate, take_all, take-append-le, drop_all, append-nil, take-append-drop}
use Rattle.magma_disk.specs.Device.{grown, resized, overlaid, Torn, TornCut, StaysAt, IsBeside}

-- where nothing is written the length stays
pub grown_none : (at count size : ℕ) → count ≡ 0 → grown at count size ≡ size
grown_none at count size none = grind (arith, nat_tests)

pub grown_some : (at count size : ℕ) → 0 < count → grown at count size ≡ max size (at + count)
grown_some at count size some = grind (arith, nat_tests)

pub grown_least : (at count size : ℕ) → size ≤ grown at count size
grown_least at count size = elim (cases_lt 0 count) [ inl some ↦ omega (arith, grown_some at count size some) | inr none ↦ omega (arith, grown_none at count size (omega arith)) ]

-- a longer piece at the same offset makes it no shorter
pub grown_more : (at few many size : ℕ) → few ≤ many → grown at few size ≤ grown at many size
grown_more at few many size more =
    elim (cases_lt 0 few) [
      | inl some ↦ omega (arith, grown_some at few size some, grown_some at many size (omega arith))
      | inr none ↦ omega (arith, grown_none at few size (omega arith), grown_least at many size)
    ]

pub resized_len : (size : ℕ) (bytes : List ℕ) → length (resized size bytes) ≡ size
resized_len size bytes =
    omega (arith, length-append (take size bytes) (replicate {A = ℕ} (size - length bytes) 0), length-take size bytes, length-replicate {A = ℕ} (size - length bytes) 0)

pub resized_same : (size : ℕ) (bytes : List ℕ) (i : ℕ) → i < length bytes → i < size → get_or (resized size bytes) i 0 ≡ get_or bytes i 0
resized_same size bytes i low below =
    get_or_append_left (take size bytes) (replicate {A = ℕ} (size - length bytes) 0) 0 i (omega (arith, length-take size bytes)) ∙ get_or-take size bytes i 0 below

-- what is beside a range is beside its front
pub beside_front : (few many : ℕ) → few ≤ many → (at i : ℕ) → IsBeside at many i → IsBeside at few i
beside_front few many more at i (inl below) = inl below
beside_front few many more at i (inr above) = inr (omega arith)

-- an empty range has no byte
pub beside_any : (at i : ℕ) → IsBeside at 0 i
beside_any at i = elim (cases_lt i at) [ inl below ↦ inl below | inr above ↦ inr (omega arith) ]

-- a cut to a length between is a cut in part
pub cut_part : (size part : ℕ) (bytes : List ℕ) → min (length bytes) size ≤ part → part ≤ max (length bytes) size → TornCut size bytes (resized part bytes)
cut_part size part bytes least most =
    let len = resized_len part bytes in
    record { no_longer = omega arith; stays = λ i low below. (omega arith, resized_same part bytes i low (omega arith)) }

pub cut_whole : (size : ℕ) (bytes : List ℕ) → TornCut size bytes (resized size bytes)
cut_whole size bytes = cut_part size size bytes (omega arith) (omega arith)

-- nothing between a front and the rest
nothing_between : (at : ℕ) (file : List ℕ) → take at file ++ [] ++ drop (at + 0) file ≡ file
nothing_between at file =
    let same : at + 0 ≡ at = omega arith in
    ap (λ (l : List ℕ). l ++ drop (at + 0) file) (append-nil (take at file)) ∙ ap (λ n. take at file ++ drop n file) same ∙ take-append-drop at file

-- a write anywhere, also far past the end
module _ (file : List ℕ) (at : ℕ) where
  overlaid_nil : overlaid file at [] ≡ file
  overlaid_nil =
      let none : length file - length file ≡ 0 = omega arith in
      let all : resized (length file) file ≡ file =
      ap (λ (l : List ℕ). l ++ replicate {A = ℕ} (length file - length file) 0) (take_all (length file) file (omega arith))
      ∙ ap (λ n. file ++ replicate {A = ℕ} n 0) none ∙ append-nil file in
      ap (λ (l : List ℕ). take at l ++ [] ++ drop (at + 0) l) all ∙ nothing_between at file

  -- a write of nothing
  pub overlaid_none : (piece : List ℕ) → length piece ≡ 0 → overlaid file at piece ≡ file
  overlaid_none [] none = overlaid_nil
  overlaid_none (b ∷ more) none = absurd (omega arith)

  -- a write of something ends within the new length
  fits : (piece : List ℕ) → 0 < length piece → at + length piece ≤ grown at (length piece) (length file)
  fits piece some = omega (arith, grown_some at (length piece) (length file) some)

  front_len : (piece : List ℕ) → 0 < length piece → length (take at (resized (grown at (length piece) (length file)) file) ++ piece) ≡ at + length piece
  front_len piece some =
      let size = grown at (length piece) (length file) in
      omega (arith, length-append (take at (resized size file)) piece, length-take at (resized size file), resized_len size file, fits piece some)

  pub overlaid_len : (piece : List ℕ) → length (overlaid file at piece) ≡ grown at (length piece) (length file)
  overlaid_len piece =
      let size = grown at (length piece) (length file) in
      let k = at + length piece in
      let long = resized size file in
      elim (cases_lt 0 (length piece)) [
        | inl some ↦ omega (arith, length-append (take at long ++ piece) (drop k long), front_len piece some, length-drop k long, resized_len size file, fits piece some)
        | inr none ↦ ap (λ (l : List ℕ). length l) (overlaid_none piece (omega arith)) ∙ sym (grown_none at (length piece) (length file) (omega arith))
      ]

  stays_some : (piece : List ℕ) → 0 < length piece → (i : ℕ) → i < length file → IsBeside at (length piece) i → get_or (overlaid file at piece) i 0 ≡ get_or file i 0
  stays_some piece some i low (inl below) =
      let size = grown at (length piece) (length file) in
      let long = resized size file in
      let least = grown_least at (length piece) (length file) in
      get_or_append_left (take at long ++ piece) (drop (at + length piece) long) 0 i (omega (arith, front_len piece some))
      ∙ get_or_append_left (take at long) piece 0 i (omega (arith, length-take at long, resized_len size file, fits piece some))
      ∙ get_or-take at long i 0 below ∙ resized_same size file i low (omega (arith, least))
  stays_some piece some i low (inr above) =
      let size = grown at (length piece) (length file) in
      let k = at + length piece in
      let long = resized size file in
      let least = grown_least at (length piece) (length file) in
      let same : k + (i - k) ≡ i = omega arith in
      get_or-append_right (take at long ++ piece) (drop k long) k i 0 (front_len piece some) above ∙ get_or-drop k long (i - k) 0 ∙ ap (λ n. get_or long n 0) same
      ∙ resized_same size file i low (omega (arith, least))

  -- what is beside the range stays
  pub overlaid_stays : (piece : List ℕ) (i : ℕ) → i < length file → IsBeside at (length piece) i → StaysAt i file (overlaid file at piece)
  overlaid_stays piece i low beside = (
    omega (arith, overlaid_len piece, grown_least at (length piece) (length file)),
    elim (cases_lt 0 (length piece)) [
      | inl some ↦ stays_some piece some i low beside
      | inr none ↦ ap (λ (l : List ℕ). get_or l i 0) (overlaid_none piece (omega arith))
    ],
  )

  -- a front of the piece is written
  pub front_torn : (piece : List ℕ) (count : ℕ) → count ≤ length piece → Torn at (length piece) file (overlaid file at (take count piece))
  front_torn piece count within =
      let few : length (take count piece) ≡ count = omega (arith, length-take count piece) in
      let len = overlaid_len (take count piece) in
      let more = grown_more at (length (take count piece)) (length piece) (length file) (omega arith) in
      record {
        no_longer = omega arith;
        stays = λ i low beside. overlaid_stays (take count piece) i low (beside_front (length (take count piece)) (length piece) (omega arith) at i beside);
      }

  pub front_longer : (piece : List ℕ) → length file ≤ length (overlaid file at piece)
  front_longer piece = omega (arith, overlaid_len piece, grown_least at (length piece) (length file))

  -- the whole piece is written
  pub overlaid_torn : (piece : List ℕ) → Torn at (length piece) file (overlaid file at piece)
  overlaid_torn piece =
      subst (λ (p : List ℕ). Torn at (length piece) file (overlaid file at p)) (take_all (length piece) piece (omega arith)) (front_torn piece (length piece) (omega arith))

  -- a write within the bytes or at their end
  back : (piece : List ℕ) → at ≤ length file → 0 < length piece → drop (at + length piece) (file ++ replicate {A = ℕ} (grown at (length piece) (length file) - length file) 0) ≡ drop (at + length piece) file
  back piece within some =
      let k = at + length piece in
      let size = grown_some at (length piece) (length file) some in
      let n = grown at (length piece) (length file) - length file in
      let rest : List ℕ = replicate {A = ℕ} n 0 in
      elim (cases_lt (length file) k) [
        | inl past ↦
            drop_all k (file ++ rest) (omega (arith, length-append file rest, length-replicate {A = ℕ} n 0)) ∙ sym (drop_all k file (omega arith))
        | inr inside ↦
            let none : n ≡ 0 = omega arith in
            ap (λ m. drop k (file ++ replicate {A = ℕ} m 0)) none ∙ ap (λ (l : List ℕ). drop k l) (append-nil file)
      ]

  within_some : (piece : List ℕ) → at ≤ length file → 0 < length piece → overlaid file at piece ≡ take at file ++ piece ++ drop (at + length piece) file
  within_some piece within some =
      let k = at + length piece in
      let size = grown at (length piece) (length file) in
      let rest : List ℕ = replicate {A = ℕ} (size - length file) 0 in
      let least = grown_least at (length piece) (length file) in
      let whole : take size file ++ rest ≡ file ++ rest = ap (λ (l : List ℕ). l ++ rest) (take_all size file (omega arith)) in
      ap (λ (l : List ℕ). take at l ++ piece ++ drop k l) whole ∙ ap (λ (l : List ℕ). l ++ piece ++ drop k (file ++ rest)) (take-append-le at file rest within)
      ∙ ap (λ (l : List ℕ). take at file ++ piece ++ l) (back piece within some)

  pub overlaid_within : (piece : List ℕ) → at ≤ length file → overlaid file at piece ≡ take at file ++ piece ++ drop (at + length piece) file
  overlaid_within [] within = overlaid_nil ∙ sym (nothing_between at file)
  overlaid_within (b ∷ more) within = within_some (b ∷ more) within (omega arith)
