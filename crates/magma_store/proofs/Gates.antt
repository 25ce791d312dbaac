-- The bytes in front of a gate, the gate, and what stands behind it.
use Rattle.std.proofs.Common.{◌≡◌, ℕ, ◌+◌, ◌-◌, ◌<◌, ◌≤◌, List, [], ◌∷◌, ◌++◌, length, take, drop, get_or, sym, ◌∙◌, ap, arith, append_assoc, length-append, length-drop, take-append-drop}
use Rattle.std.proofs.lemmas.List.{take_at, drop_at, drop_more, drop-drop}
use Rattle.magma_disk.specs.Device.{overlaid, Torn}
use Rattle.magma_disk.proofs.Bytes.{grown_some, overlaid_within}
use Rattle.magma_disk.proofs.Images.{torn_front, torn_back}

module _ (front : List ℕ) (end : ℕ) (len : end ≡ length front) where
  split_gate : (gate : ℕ) (rest : List ℕ) → front ++ gate ∷ rest ≡ (front ++ gate ∷ []) ++ rest
  split_gate gate rest = sym (append_assoc front (gate ∷ []) rest)

  gate_len : (gate : ℕ) → length (front ++ gate ∷ []) ≡ end + 1
  gate_len gate = omega (arith, len, length-append front (gate ∷ []))

  within : (tail : List ℕ) → end ≤ length (front ++ tail)
  within tail = omega (arith, len, length-append front tail)

  room : (gate : ℕ) (rest : List ℕ) → end + 1 ≤ length (front ++ gate ∷ rest)
  room gate rest = omega (arith, len, length-append front (gate ∷ rest))

  up_to : (gate : ℕ) (rest : List ℕ) → take (end + 1) (front ++ gate ∷ rest) ≡ front ++ gate ∷ []
  up_to gate rest =
      ap (λ (l : List ℕ). take (end + 1) l) (split_gate gate rest)
      ∙ take_at (front ++ gate ∷ []) rest (end + 1) (gate_len gate)

  behind : (gate : ℕ) (rest : List ℕ) → drop (end + 1) (front ++ gate ∷ rest) ≡ rest
  behind gate rest =
      ap (λ (l : List ℕ). drop (end + 1) l) (split_gate gate rest)
      ∙ drop_at (front ++ gate ∷ []) rest (end + 1) (gate_len gate)

  -- a write at the gate leaves what is in front of it
  pub front_kept : (n : ℕ) (tail image : List ℕ) → Torn end n (front ++ tail) image → image ≡ front ++ drop end image
  front_kept n tail image torn =
      let kept : take end image ≡ front =
      torn_front end n (front ++ tail) image (within tail) torn ∙ take_at front tail end (sym len) in
      sym (take-append-drop end image) ∙ ap (λ (l : List ℕ). l ++ drop end image) kept

  -- a write behind the gate leaves the gate too
  pub gate_kept : (gate n : ℕ) (rest image : List ℕ) → Torn (end + 1) n (front ++ gate ∷ rest) image
      → image ≡ front ++ gate ∷ drop (end + 1) image
  gate_kept gate n rest image torn =
      let kept : take (end + 1) image ≡ front ++ gate ∷ [] =
      torn_front (end + 1) n (front ++ gate ∷ rest) image (room gate rest) torn ∙ up_to gate rest in
      sym (take-append-drop (end + 1) image) ∙ ap (λ (l : List ℕ). l ++ drop (end + 1) image) kept
      ∙ append_assoc front (gate ∷ []) (drop (end + 1) image)

  -- a write of the gate leaves what stands behind it, where anything does
  pub other_gate : (gate : ℕ) (rest image : List ℕ) → 0 < length rest → Torn end 1 (front ++ gate ∷ rest) image
      → image ≡ front ++ get_or image end 0 ∷ rest
  other_gate gate rest image some torn =
      let after : drop (end + 1) image ≡ rest =
      torn_back end 1 (front ++ gate ∷ rest) image (room gate rest) torn ∙ behind gate rest in
      let size : length image - (end + 1) ≡ length rest =
      sym (length-drop (end + 1) image) ∙ ap (λ (l : List ℕ). length l) after in
      front_kept 1 (gate ∷ rest) image torn
      ∙ ap (λ (l : List ℕ). front ++ l)
      (drop_more image end 0 (omega arith) ∙ ap (λ (l : List ℕ). get_or image end 0 ∷ l) after)

  -- a gate that was written
  pub new_gate : (new : ℕ) (tail : List ℕ)
      → overlaid (front ++ tail) end (new ∷ []) ≡ front ++ new ∷ drop (end + 1) (front ++ tail)
  new_gate new tail =
      let file = front ++ tail in
      overlaid_within file end (new ∷ []) (within tail)
      ∙ ap (λ (l : List ℕ). l ++ (new ∷ []) ++ drop (end + 1) file) (take_at front tail end (sym len))
      ∙ append_assoc front (new ∷ []) (drop (end + 1) file)

  pub opened_gate : (gate new : ℕ) (rest : List ℕ)
      → overlaid (front ++ gate ∷ rest) end (new ∷ []) ≡ front ++ new ∷ rest
  opened_gate gate new rest = new_gate new (gate ∷ rest) ∙ ap (λ (l : List ℕ). front ++ new ∷ l) (behind gate rest)

  -- a piece that was written behind the gate
  pub staged : (gate : ℕ) (rest piece : List ℕ)
      → overlaid (front ++ gate ∷ rest) (end + 1) piece ≡ front ++ gate ∷ (piece ++ drop (length piece) rest)
  staged gate rest piece =
      let file = front ++ gate ∷ rest in
      let left = drop (length piece) rest in
      overlaid_within file (end + 1) piece (room gate rest)
      ∙ ap (λ (l : List ℕ). l ++ piece ++ drop (end + 1 + length piece) file) (up_to gate rest)
      ∙ ap (λ (l : List ℕ). front ++ gate ∷ [] ++ piece ++ l)
      (sym (drop-drop (length piece) (end + 1) file) ∙ ap (λ (l : List ℕ). drop (length piece) l) (behind gate rest))
      ∙ append_assoc (front ++ gate ∷ []) piece left ∙ append_assoc front (gate ∷ []) (piece ++ left)

  -- at most the gate is left of a write of the last byte, or of one at the end
  pub last_gate : (tail image : List ℕ) → length tail ≤ 1 → Torn end 1 (front ++ tail) image
      → length (drop end image) ≤ 1
  last_gate tail image few torn =
      let most = torn.no_longer in
      omega (
        arith,
        len,
        length-append front tail,
        length-drop end image,
        grown_some end 1 (length (front ++ tail))
            (omega arith),
      )
