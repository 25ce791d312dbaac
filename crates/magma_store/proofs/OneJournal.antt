-- Records one after another are read in one way.
use Rattle.std.specs.Prelude.{◌≡◌, ◌≢◌, ◌⊎◌, ℕ, ◌<◌, ◌^◌, List, [], ◌∷◌, ◌++◌, length, refl}
use Rattle.std.specs.Int.{w64, byte_len, to_be_bytes}
use Rattle.std.proofs.Common.{inl, inr, sym, ap, ap₂, ◌∙◌, subst, append_assoc, arith}
use Rattle.std.proofs.lemmas.List.{length-append}
use Rattle.kv_edge.proofs.Fields.{wide64}
use Rattle.vb_log.proofs.Layouts.{Same, same_byte, same_run}
use Rattle.magma_store.specs.declared.journal.TheConstants.{OPEN}
use Rattle.magma_store.specs.Forms.{Form, FieldAt, Breaks, RecordBreaks}
use Rattle.magma_store.specs.Journal.{record_bytes, journal_bytes, CanBeCounted, IsEnd, IsJournal}
use Rattle.magma_store.proofs.Leads.{same_field}

abbrev Records : Type 0
Records = List (List ℕ)

-- ---- one record

-- what stands behind a record's gate
behind_gate : (held rest : List ℕ) → record_bytes held ++ rest ≡ OPEN ∷ (to_be_bytes w64 (length held) ++ (held ++ rest))
behind_gate held rest = ap (λ l. OPEN ∷ l) (append_assoc (to_be_bytes w64 (length held)) held rest)

-- what stands behind a size is one record's
pub same_held : (a b r s : List ℕ) → length a < 2 ^ 64 → length b < 2 ^ 64 → to_be_bytes w64 (length a) ++ (a ++ r) ≡ to_be_bytes w64 (length b) ++ (b ++ s) → Same a b r s
same_held a b r s low high e =
    let size = same_field w64 (2 ^ 64) wide64 (length a) (length b) (a ++ r) (b ++ s) low high e in
    same_run a b r s size.rest size.one

same_record : (a b r s : List ℕ) → length a < 2 ^ 64 → length b < 2 ^ 64 → record_bytes a ++ r ≡ record_bytes b ++ s → Same a b r s
same_record a b r s low high e =
    let first = same_byte OPEN OPEN _ _ (sym (behind_gate a r) ∙ e ∙ behind_gate b s) in
    same_held a b r s low high first.rest

-- where no record begins, none stands
pub no_record : (held rest bytes : List ℕ) → IsEnd bytes → bytes ≡ record_bytes held ++ rest → ⊥
no_record held rest [] over e = let clash : [] ≡ OPEN ∷ (to_be_bytes w64 (length held) ++ (held ++ rest)) = e ∙ behind_gate held rest in absurd (cc)
no_record held rest (gate ∷ more) (inl shut) e = shut (same_byte gate OPEN _ _ (e ∙ behind_gate held rest)).one
no_record held rest (gate ∷ more) (inr none) e =
    let same = same_byte gate OPEN more (to_be_bytes w64 (length held) ++ (held ++ rest)) (e ∙ behind_gate held rest) in
    let wide = wide64.len (length held) in
    omega (arith, ap length none, ap length same.rest, length-append (to_be_bytes w64 (length held)) (held ++ rest))

-- ---- records one after another

journal_parted : (held : List ℕ) (records : Records) (rest : List ℕ) → journal_bytes (held ∷ records) ++ rest ≡ record_bytes held ++ (journal_bytes records ++ rest)
journal_parted held records rest = append_assoc (record_bytes held) (journal_bytes records) rest

same_journal : (rs ss : Records) (r s : List ℕ) → CanBeCounted rs → CanBeCounted ss → IsEnd r → IsEnd s → journal_bytes rs ++ r ≡ journal_bytes ss ++ s → rs ≡ ss
same_journal [] [] r s h k over also e = refl
same_journal [] (b ∷ ss) r s h k over also e = absurd (no_record b (journal_bytes ss ++ s) r over (e ∙ journal_parted b ss s))
same_journal (a ∷ rs) [] r s h k over also e = absurd (no_record a (journal_bytes rs ++ r) s also (sym e ∙ journal_parted a rs r))
same_journal (a ∷ rs) (b ∷ ss) r s h k over also e =
    let first = same_record a b (journal_bytes rs ++ r) (journal_bytes ss ++ s) h.0 k.0 (sym (journal_parted a rs r) ∙ e ∙ journal_parted b ss s) in
    ap₂ (λ x xs. x ∷ xs) first.one (same_journal rs ss r s h.1 k.1 over also first.rest)

-- bytes have one journal's records
pub one_journal : (rs ss : Records) (bytes : List ℕ) → IsJournal rs bytes → IsJournal ss bytes → rs ≡ ss
one_journal rs ss bytes p q = same_journal rs ss p.rest q.rest p.counted q.counted p.ends q.ends (sym p.parts ∙ q.parts)

-- ---- a journal that was broken off

-- where a reading of some records stops at an open gate, with bytes behind it, all of the journal's records go on with one more
pub record GoesOn (rs ss : Records) (rest : List ℕ) : Type 0 where
  pub held : List ℕ
  pub more : Records
  pub behind : List ℕ
  pub all : ss ≡ rs ++ held ∷ more
  pub counted : length held < 2 ^ 64
  pub front : rest ≡ to_be_bytes w64 (length held) ++ (held ++ behind)

pub goes_on : (rs ss : Records) (rest s : List ℕ) → CanBeCounted rs → CanBeCounted ss → rest ≢ [] → IsEnd s → journal_bytes rs ++ OPEN ∷ rest ≡ journal_bytes ss ++ s → GoesOn rs ss rest
goes_on [] [] rest s h k some over e = absurd (still (subst IsEnd (sym e) over))
  where
    still : IsEnd (OPEN ∷ rest) → ⊥
    still (inl shut) = shut refl
    still (inr none) = some none
goes_on [] (b ∷ ss) rest s h k some over e =
    let behind = journal_bytes ss ++ s in
    let first = same_byte OPEN OPEN rest (to_be_bytes w64 (length b) ++ (b ++ behind)) (e ∙ journal_parted b ss s ∙ behind_gate b behind) in
    record { held = b; more = ss; behind = behind; all = refl; counted = k.0; front = first.rest }
goes_on (a ∷ rs) [] rest s h k some over e = absurd (no_record a (journal_bytes rs ++ OPEN ∷ rest) s over (sym e ∙ journal_parted a rs (OPEN ∷ rest)))
goes_on (a ∷ rs) (b ∷ ss) rest s h k some over e =
    let first = same_record a b (journal_bytes rs ++ OPEN ∷ rest) (journal_bytes ss ++ s) h.0 k.0 (sym (journal_parted a rs (OPEN ∷ rest)) ∙ e ∙ journal_parted b ss s) in
    let g = goes_on rs ss rest s h.1 k.1 some over first.rest in
    record { held = g.held; more = g.more; behind = g.behind; all = ap₂ (λ x xs. x ∷ xs) (sym first.one) g.all; counted = g.counted; front = g.front }

-- a whole record breaks the layout by what it holds alone
pub held_breaks : (form : Form) (rest held behind : List ℕ) (left found expected : ℕ) → length held < 2 ^ 64 → rest ≡ to_be_bytes w64 (length held) ++ (held ++ behind) → RecordBreaks form rest left found expected
    → (within : ℕ) × Breaks form held within found expected
held_breaks form rest held behind left found expected low front (inl size) = absurd (whole size.1)
  where
    whole : ((length rest < byte_len w64) × (found ≡ length rest) × (expected ≡ byte_len w64)) ⊎ ((after : List ℕ) × FieldAt w64 rest found after × (length after < found) × (expected ≡ length after)) → ⊥
    whole (inl short) = let few = short.0 in omega (arith, ap length front, length-append (to_be_bytes w64 (length held)) (held ++ behind), wide64.len (length held))
    whole (inr there) =
        let same = same_field w64 (2 ^ 64) wide64 found (length held) there.0 (held ++ behind) there.1.small low (sym there.1.front ∙ front) in
        let few = there.2 in
        let is = same.one in
        omega (arith, ap length same.rest, length-append held behind)
held_breaks form rest held behind left found expected low front (inr h) =
    let same = same_held h.held held h.behind behind h.counted low (sym h.front ∙ front) in
    (h.within, subst (λ l. Breaks form l h.within found expected) same.one h.breaks)
