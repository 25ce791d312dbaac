-- A journal at whose end no closed gate stands gets one.
use Rattle.std.proofs.Common.{◌≡◌, ◌≢◌, inl, inr, ℕ, ◌+◌, ◌<◌, ◌≤◌, Bool, true, false, not, eqb, eq-eqb, List, [], ◌∷◌, ◌++◌, length, take, drop, get_or, refl, sym, ◌∙◌, ap, subst, arith, length-drop}
use Rattle.std.proofs.lemmas.Bool.{eqb-true}
use Rattle.std.proofs.lemmas.List.{drop_at, drop_all}
use Rattle.magma_disk.specs.Device.{Device, IsImage, settled, overlaid, Torn}
use Rattle.magma_disk.specs.Calls.{Reads}
use Rattle.magma_disk.specs.declared.disk.DiskRead.TheVariants as read
use Rattle.magma_disk.specs.Moments.{Throughout, IsSettled}
use Rattle.magma_disk.proofs.Images.{settled_only}
use Rattle.magma_disk.proofs.Moments.{started, weaker, no_more}
use Rattle.magma_store.specs.declared.journal.TheConstants.{OPEN, SHUT}
use Rattle.magma_store.specs.Journal.{journal_bytes, IsEnd, IsJournal, IsAtRest, IsFile}
use Rattle.magma_store.specs.Gates.{begins_shut}
use Rattle.magma_store.proofs.Gates.{front_kept, last_gate, new_gate}
use Rattle.magma_store.proofs.Appending.{Written, Done, stays_told, rests_now, is_shut}

-- ---- the byte that is read at the end

shut_at : (buf rest : List ℕ) → length buf ≡ 1 → take 1 buf ≡ take 1 rest → 0 < length rest
    → not (eqb (get_or buf 0 0) OPEN) ≡ begins_shut rest
shut_at [] rest one same some = absurd (omega arith)
shut_at (b ∷ bs) [] one same some = absurd (omega arith)
shut_at (b ∷ bs) (r ∷ rs) one same some = let is : b ≡ r = cc in ap (λ g. not (eqb g OPEN)) is

pub none_read : (at : ℕ) (buf file : List ℕ) (h : List Device) → length buf ≡ 1 → IsFile file h
    → Reads at (read.Got 0) buf h → false ≡ begins_shut (drop at file)
none_read at buf file [] one is got = absurd is
none_read at buf file (d ∷ past) one is got =
    let size : length d.bytes ≡ length file = ap (λ (e : Device). length e.bytes) is in
    let none = got.0 in
    sym (ap begins_shut (drop_all at file (omega arith)))

pub byte_read : (at n : ℕ) (buf file : List ℕ) (h : List Device) → length buf ≡ 1 → 0 < n → IsFile file h
    → Reads at (read.Got n) buf h → not (eqb (get_or buf 0 0) OPEN) ≡ begins_shut (drop at file)
byte_read at n buf file [] one some is got = absurd is
byte_read at n buf file (d ∷ past) one some is got =
    let size : length d.bytes ≡ length file = ap (λ (e : Device). length e.bytes) is in
    let count = got.0 in
    let n-is : n ≡ 1 = omega arith in
    let front : take 1 buf ≡ take 1 (drop at file) =
    ap (λ k. take k buf) (sym n-is) ∙ got.1 ∙ ap (λ k. take k (drop at d.bytes)) n-is
    ∙ ap (λ (e : Device). take 1 (drop at e.bytes)) is in
    shut_at buf (drop at file) one front (omega (arith, length-drop at file))

-- ---- what stands at the end

not_false : (b : Bool) → not b ≡ false → b ≡ true
not_false true e = refl
not_false false e = absurd cc

not_true : (b : Bool) → not b ≡ true → b ≡ false
not_true true e = absurd cc
not_true false e = refl

few_left : (rest : List ℕ) → IsEnd rest → begins_shut rest ≡ false → length rest ≤ 1
few_left [] ends none = omega arith
few_left (gate ∷ rest) (inl shut) none = absurd (shut (eqb-true gate OPEN (not_false (eqb gate OPEN) none)))
few_left (gate ∷ rest) (inr last) none = let size = ap (λ (l : List ℕ). length l) last in omega arith

ends_few : (rest : List ℕ) → length rest ≤ 1 → IsEnd rest
ends_few [] few = tt
ends_few (gate ∷ []) few = inr refl
ends_few (gate ∷ b ∷ more) few = absurd (omega arith)

apart : (gate : ℕ) → not (eqb gate OPEN) ≡ true → gate ≢ OPEN
apart gate shut = λ same. let no : true ≡ false = sym (eq-eqb gate OPEN same) ∙ not_true (eqb gate OPEN) shut in cc

module _ (file : List ℕ) (records : List (List ℕ)) (j : IsJournal records file) (end : ℕ)
    (len : end ≡ length (journal_bytes records)) where
  rest_is : drop end file ≡ j.rest
  rest_is = ap (λ (l : List ℕ). drop end l) j.parts ∙ drop_at (journal_bytes records) j.rest end (sym len)

  -- a write of the gate leaves the records
  closing : (image : List ℕ) → begins_shut (drop end file) ≡ false → Torn end 1 file image → IsJournal records image
  closing image none torn =
      let on : Torn end 1 (journal_bytes records ++ j.rest) image =
      subst (λ (l : List ℕ). Torn end 1 l image) j.parts torn in
      let few = few_left j.rest j.ends (subst (λ (l : List ℕ). begins_shut l ≡ false) rest_is none) in
      record {
        rest = drop end image;
        parts = front_kept (journal_bytes records) end len 1 j.rest image on;
        counted = j.counted;
        ends = ends_few (drop end image) (last_gate (journal_bytes records) end len j.rest image few on);
      }

  pub close_moments : (h now : List Device) → IsFile file h → begins_shut (drop end file) ≡ false
      → Written end (SHUT ∷ []) h now → Throughout (IsJournal records) h now
  close_moments [] now is none w = absurd is
  close_moments (d ∷ past) now is none w =
      weaker (Torn end 1 file) (IsJournal records) (d ∷ past) now (λ image torn. closing image none torn)
      (w.moments file is)

  pub close_rests : (h now : List Device) → IsFile file h → Written end (SHUT ∷ []) h now → Done end (SHUT ∷ []) h now
      → IsAtRest records now
  close_rests [] now is w done = absurd is
  close_rests (d ∷ past) now is w done =
      let whole = journal_bytes records ++ j.rest in
      let written : IsSettled (overlaid whole end (SHUT ∷ [])) now =
      subst (λ (l : List ℕ). IsSettled (overlaid l end (SHUT ∷ [])) now) j.parts (done.settled file is) in
      rests_now now records SHUT (drop (end + 1) whole) (stays_told d past now (w.moments file is)) j.counted is_shut
      (subst (λ (l : List ℕ). IsSettled l now) (new_gate (journal_bytes records) end len SHUT j.rest) written)

  -- nothing was done
  pub kept_moments : (h now : List Device) → IsFile file h → now ≡ h → Throughout (IsJournal records) h now
  kept_moments [] now is same = absurd is
  kept_moments (d ∷ past) now is same =
      no_more (IsJournal records) (d ∷ past) (d ∷ past) now
      (started (IsJournal records) (d ∷ past) (
        (λ image left. subst (IsJournal records)
            (sym (settled_only file image (subst (λ (e : Device). IsImage e image) is left))) j),
        tt,
      )) same

  rests_shut : (rest : List ℕ) (d : Device) → drop end file ≡ rest → begins_shut rest ≡ true → d ≡ settled file
      → IsAtRest records (d ∷ [])
  rests_shut [] d at shut is = absurd cc
  rests_shut (gate ∷ behind) d at shut is =
      record {
        gate = gate;
        behind = behind;
        is = is ∙ ap settled (j.parts ∙ ap (λ (l : List ℕ). journal_bytes records ++ l) (sym rest_is ∙ at));
        counted = j.counted;
        shut = apart gate shut;
      }

  pub kept_rests : (h now : List Device) → IsFile file h → begins_shut (drop end file) ≡ true → now ≡ h
      → IsAtRest records now
  kept_rests [] now is shut same = absurd is
  kept_rests (d ∷ past) now is shut same =
      subst (IsAtRest records) (sym same) (rests_shut (drop end file) d refl shut is)
