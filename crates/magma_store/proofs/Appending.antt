-- One record more behind the closed gate: what a crash leaves of each of the two synced writes.
use Rattle.std.proofs.Common.{◌≡◌, ◌≢◌, ◌⊎◌, inl, inr, ℕ, ◌+◌, ◌^◌, ◌<◌, List, [], ◌∷◌, ◌++◌, length, drop, get_or, refl, sym, ◌∙◌, ap, subst, arith, append_assoc, length-append}
use Rattle.std.specs.Int.{w64, to_be_bytes}
use Rattle.std.proofs.lemmas.Bool.{cases_eq}
use Rattle.std.proofs.lemmas.List.{flat_map_more}
use Rattle.kv_edge.proofs.Fields.{wide64}
use Rattle.magma_disk.specs.Device.{Device, overlaid, Torn}
use Rattle.magma_disk.specs.Moments.{Throughout, IsSettled}
use Rattle.magma_disk.proofs.Moments.{weaker, onward}
use Rattle.magma_store.specs.declared.journal.TheConstants.{OPEN, SHUT}
use Rattle.magma_store.specs.Journal.{record_bytes, piece_bytes, journal_bytes, CanBeCounted, IsJournal, IsAtRest}
use Rattle.magma_store.proofs.Gates.{gate_kept, other_gate, opened_gate, staged}

-- ---- the bytes of one record more

pub counted_more : (records : List (List ℕ)) (held : List ℕ) → CanBeCounted records → length held < 2 ^ 64
    → CanBeCounted (records ++ held ∷ [])
counted_more [] held counted small = (small, tt)
counted_more (r ∷ rs) held counted small = (counted.0, counted_more rs held counted.1 small)

pub journal_more : (records : List (List ℕ)) (held : List ℕ)
    → journal_bytes (records ++ held ∷ []) ≡ journal_bytes records ++ record_bytes held
journal_more records held = sym (flat_map_more record_bytes [] records held)

regrouped : (front size held left : List ℕ) (gate shut : ℕ)
    → front ++ gate ∷ ((size ++ (held ++ shut ∷ [])) ++ left) ≡ (front ++ gate ∷ (size ++ held)) ++ shut ∷ left
regrouped front size held left gate shut =
    ap (λ (l : List ℕ). front ++ gate ∷ l)
    (append_assoc size (held ++ shut ∷ []) left ∙ ap (λ (l : List ℕ). size ++ l) (append_assoc held (shut ∷ []) left)
    ∙ sym (append_assoc size held (shut ∷ left)))
    ∙ sym (append_assoc front (gate ∷ (size ++ held)) (shut ∷ left))

pub opened_is : (records : List (List ℕ)) (held left : List ℕ)
    → journal_bytes records ++ OPEN ∷ (piece_bytes held ++ left) ≡ journal_bytes (records ++ held ∷ []) ++ SHUT ∷ left
opened_is records held left =
    regrouped (journal_bytes records) (to_be_bytes w64 (length held)) held left OPEN SHUT
    ∙ ap (λ (l : List ℕ). l ++ SHUT ∷ left) (sym (journal_more records held))

piece_some : (held left : List ℕ) → 0 < length (piece_bytes held ++ left)
piece_some held left =
    let size = to_be_bytes w64 (length held) in
    let len = wide64.len (length held) in
    omega (arith, length-append (piece_bytes held) left, length-append size (held ++ SHUT ∷ []))

-- ---- journals

pub is_shut : SHUT ≢ OPEN
is_shut = λ same. absurd (omega arith)

pub shut_journal : (records : List (List ℕ)) (gate : ℕ) (rest bytes : List ℕ) → CanBeCounted records → gate ≢ OPEN
    → bytes ≡ journal_bytes records ++ gate ∷ rest → IsJournal records bytes
shut_journal records gate rest bytes counted shut is =
    record { rest = gate ∷ rest; parts = is; counted = counted; ends = inl shut }

-- these records, or one more
abbrev pub IsEither : List (List ℕ) → List ℕ → List ℕ → Type 0
IsEither records held image = IsJournal records image ⊎ IsJournal (records ++ held ∷ []) image

module _ (records : List (List ℕ)) (counted : CanBeCounted records)
    (end : ℕ) (len : end ≡ length (journal_bytes records)) where
  -- the closed gate stands in each image of a write behind it
  pub behind_torn : (gate n : ℕ) (behind image : List ℕ) → gate ≢ OPEN
      → Torn (end + 1) n (journal_bytes records ++ gate ∷ behind) image → IsJournal records image
  behind_torn gate n behind image shut torn =
      shut_journal records gate (drop (end + 1) image) image counted shut
      (gate_kept (journal_bytes records) end len gate n behind image torn)

  -- the whole record stands behind its gate in each image of the write that opens it
  pub gate_torn : (gate : ℕ) (held left image : List ℕ) → length held < 2 ^ 64
      → Torn end 1 (journal_bytes records ++ gate ∷ (piece_bytes held ++ left)) image → IsEither records held image
  gate_torn gate held left image small torn =
      let new = get_or image end 0 in
      let parts =
      other_gate (journal_bytes records) end len gate (piece_bytes held ++ left) image (piece_some held left) torn in
      elim (cases_eq new OPEN) [
        | inl opened ↦ inr
            (shut_journal (records ++ held ∷ []) SHUT left image (counted_more records held counted small) is_shut
            (parts ∙ ap (λ (g : ℕ). journal_bytes records ++ g ∷ (piece_bytes held ++ left)) opened
            ∙ opened_is records held left))
        | inr shut ↦ inl (shut_journal records new (piece_bytes held ++ left) image counted shut parts)
      ]

-- ---- calls of `write_synced`

-- what it promises at any moment
pub record Written (at : ℕ) (piece : List ℕ) (old new : List Device) : Type 0 where
  pub moments : (file : List ℕ) → IsSettled file old → Throughout (Torn at (length piece) file) old new

-- what it promises after `Done`
pub record Done (at : ℕ) (piece : List ℕ) (old new : List Device) : Type 0 where
  pub settled : (file : List ℕ) → IsSettled file old → IsSettled (overlaid file at piece) new

-- a disk that tells its states goes on to do so
pub stays_told : {P : List ℕ → Type 0} (d : Device) (past now : List Device) → Throughout P (d ∷ past) now → now ≡ []
    → ⊥
stays_told {P} d past now run none =
    let size = ap (λ (l : List Device). length l) (sym none ∙ run.goes_on) in
    absurd (omega (arith, size, length-append run.added (d ∷ past)))

pub rests_now : (now : List Device) (records : List (List ℕ)) (gate : ℕ) (behind : List ℕ) → (now ≡ [] → ⊥)
    → CanBeCounted records → gate ≢ OPEN → IsSettled (journal_bytes records ++ gate ∷ behind) now → IsAtRest records now
rests_now [] records gate behind told counted shut is = absurd (told refl)
rests_now (d ∷ past) records gate behind told counted shut is =
    record { gate = gate; behind = behind; is = is; counted = counted; shut = shut }

module _ (records : List (List ℕ)) (held : List ℕ) (end : ℕ) (len : end ≡ length (journal_bytes records))
    (small : length held < 2 ^ 64) where
  pub first_moments : (piece : List ℕ) (h mid : List Device) → IsAtRest records h → Written (end + 1) piece h mid
      → Throughout (IsEither records held) h mid
  first_moments piece [] mid rests w = absurd rests
  first_moments piece (d ∷ past) mid rests w =
      weaker (Torn (end + 1) (length piece) (journal_bytes records ++ rests.gate ∷ rests.behind))
      (IsEither records held) (d ∷ past) mid
      (λ image torn. inl
      (behind_torn records rests.counted end len rests.gate (length piece) rests.behind image rests.shut torn))
      (w.moments (journal_bytes records ++ rests.gate ∷ rests.behind) rests.is)

  -- the piece stands behind the closed gate
  is_staged : (d : Device) (past mid : List Device) (rests : IsAtRest records (d ∷ past))
      → Done (end + 1) (piece_bytes held) (d ∷ past) mid
      → (let left = drop (length (piece_bytes held)) rests.behind in
      IsSettled (journal_bytes records ++ rests.gate ∷ (piece_bytes held ++ left)) mid)
  is_staged d past mid rests done =
      subst (λ (l : List ℕ). IsSettled l mid)
      (staged (journal_bytes records) end len rests.gate rests.behind (piece_bytes held))
      (done.settled (journal_bytes records ++ rests.gate ∷ rests.behind) rests.is)

  pub both_moments : (h mid now : List Device) → IsAtRest records h → Written (end + 1) (piece_bytes held) h mid
      → Done (end + 1) (piece_bytes held) h mid → Written end (OPEN ∷ []) mid now
      → Throughout (IsEither records held) h now
  both_moments [] mid now rests w done v = absurd rests
  both_moments (d ∷ past) mid now rests w done v =
      let left = drop (length (piece_bytes held)) rests.behind in
      let file = journal_bytes records ++ rests.gate ∷ (piece_bytes held ++ left) in
      onward (IsEither records held) (d ∷ past) mid now (first_moments (piece_bytes held) (d ∷ past) mid rests w)
      (weaker (Torn end 1 file) (IsEither records held) mid now
      (λ image torn. gate_torn records rests.counted end len rests.gate held left image small torn)
      (v.moments file (is_staged d past mid rests done)))

  pub added : (h mid now : List Device) → IsAtRest records h → Written (end + 1) (piece_bytes held) h mid
      → Done (end + 1) (piece_bytes held) h mid → Written end (OPEN ∷ []) mid now → Done end (OPEN ∷ []) mid now
      → IsAtRest (records ++ held ∷ []) now
  added [] mid now rests w done v last = absurd rests
  added (d ∷ past) mid now rests w done v last =
      let left = drop (length (piece_bytes held)) rests.behind in
      let file = journal_bytes records ++ rests.gate ∷ (piece_bytes held ++ left) in
      let is : overlaid file end (OPEN ∷ []) ≡ journal_bytes (records ++ held ∷ []) ++ SHUT ∷ left =
      opened_gate (journal_bytes records) end len rests.gate OPEN (piece_bytes held ++ left)
      ∙ opened_is records held left in
      rests_now now (records ++ held ∷ []) SHUT left
      (stays_told d past now (both_moments (d ∷ past) mid now rests w done v))
      (counted_more records held rests.counted small) is_shut
      (subst (λ (l : List ℕ). IsSettled l now) is (last.settled file (is_staged d past mid rests done)))
