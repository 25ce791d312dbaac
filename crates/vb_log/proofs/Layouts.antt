-- Layouts: bytes break one at one place, and then they don't fit it.
use Rattle.std.specs.Prelude.{◌≡◌, ℕ, ◌≤◌, ◌<◌, Bool, List, ◌∷◌, ◌++◌, length, take, drop, Some, refl}
use Rattle.std.specs.Int.{to_be_bytes}
use Rattle.std.proofs.Common.{inl, inr, sym, ap, ◌∙◌, subst, arith}
use Rattle.std.proofs.lemmas.List.{take_at, drop_at, length-append}
use Rattle.kv_edge.specs.Fields.{IsBytes, number_at}
use Rattle.kv_edge.proofs.Fields.{IsWide, wide32, wide64, number_takes, number_again}
use Rattle.manifest_rules.specs.Catalog.{Catalog}
use Rattle.manifest_rules.specs.State.{state_of}
use Rattle.manifest_rules.proofs.Faults.{one_place as state_place, breaks_none}
use Rattle.manifest_rules.proofs.States.{same_state}
use Rattle.doc_model.specs.declared.key.DocKey.{DocKey}
use Rattle.vb_log.specs.Keys.{spelt_key}
use Rattle.vb_log.specs.Layout.{Size, four, eight, width_of, limit_of, Form, Layout, end, byte, number, run, key_field, state_field, ByteAt, NumberAt, RunAt, PassingKeyAt, StateAt, Fits, Breaks}
use Rattle.vb_log.proofs.Spelt.{one_key}
use Rattle.vb_log.specs.declared.fields.FieldFault.{FieldFault}
use Rattle.vb_log.specs.declared.fields.FieldFault.TheVariants as field_fault
use Rattle.vb_log.specs.Faults.{IsBroken}

-- ---- a front is one field

pub record Same {A : Type 0} (a b : A) (r s : List ℕ) : Type 0 where
  pub one : a ≡ b
  pub rest : r ≡ s

pub same_byte : (a b : ℕ) (r s : List ℕ) → a ∷ r ≡ b ∷ s → Same a b r s
same_byte a b r s e = record { one = cc; rest = cc }

wide : (size : Size) → IsWide (width_of size) (limit_of size)
wide four = wide32
wide eight = wide64

pair_is : (a c : ℕ) (b d : List ℕ) → Some (let p : ℕ × List ℕ = (a, b) in p) ≡ Some (let p : ℕ × List ℕ = (c, d) in p) → Same a c b d
pair_is a c b d e = let same = some_is (let p : ℕ × List ℕ = (a, b) in p) (let p : ℕ × List ℕ = (c, d) in p) e in record { one = ap (λ p. p.0) same; rest = ap (λ p. p.1) same }
  where
    some_is : {A : Type 0} (x y : A) → Some x ≡ Some y → x ≡ y
    some_is x y q = cc

pub same_number : (size : Size) (a b : ℕ) (r s : List ℕ) → a < limit_of size → b < limit_of size → to_be_bytes (width_of size) a ++ r ≡ to_be_bytes (width_of size) b ++ s → Same a b r s
same_number size a b r s low high e =
    pair_is a b r s (sym (number_again (width_of size) (limit_of size) (wide size) a r low) ∙ ap (number_at (width_of size)) e ∙ number_again (width_of size) (limit_of size) (wide size) b s high)

pub same_run : (a b r s : List ℕ) → a ++ r ≡ b ++ s → length a ≡ length b → Same a b r s
same_run a b r s e len = record {
  one = sym (take_at a r (length a) refl) ∙ ap (take (length a)) e ∙ take_at b s (length a) (sym len);
  rest = sym (drop_at a r (length a) refl) ∙ ap (drop (length a)) e ∙ drop_at b s (length a) (sym len);
}

-- a number that was read and keeps its bounds
pub number_found : (size : Size) (least most : ℕ) (bytes : List ℕ) (n : ℕ) (rest : List ℕ) → IsBytes bytes → number_at (width_of size) bytes ≡ Some (n, rest) → least ≤ n → n ≤ most → NumberAt size least most bytes n rest
number_found size least most bytes n rest fits found above below =
    let t = number_takes (width_of size) (limit_of size) (wide size) bytes n rest fits found in
    record { front = t.0.parts; above = above; below = below; small = t.1 }

byte_one : (least most : ℕ) (bytes : List ℕ) (a b : ℕ) (r s : List ℕ) → ByteAt least most bytes a r → ByteAt least most bytes b s → Same a b r s
byte_one least most bytes a b r s p q = same_byte a b r s (sym p.front ∙ q.front)

number_one : (size : Size) (least most : ℕ) (bytes : List ℕ) (a b : ℕ) (r s : List ℕ) → NumberAt size least most bytes a r → NumberAt size least most bytes b s → Same a b r s
number_one size least most bytes a b r s p q = same_number size a b r s p.small q.small (sym p.front ∙ q.front)

run_one : (size : ℕ) (form : Form) (bytes a b r s : List ℕ) → RunAt size form bytes a r → RunAt size form bytes b s → Same a b r s
run_one size form bytes a b r s p q = same_run a b r s (sym p.front ∙ q.front) (p.whole ∙ sym q.whole)

passing_one : (size : ℕ) (test : DocKey → Bool) (bytes : List ℕ) (a b : DocKey) (r s : List ℕ) → PassingKeyAt size test bytes a r → PassingKeyAt size test bytes b s → Same a b r s
passing_one size test bytes a b r s p q =
    let same = same_run (spelt_key a) (spelt_key b) r s (sym p.front ∙ q.front) (p.whole ∙ sym q.whole) in
    record { one = one_key a b p.allowed q.allowed same.one; rest = same.rest }

pub state_one : (bytes : List ℕ) (a b : Catalog) (r s : List ℕ) → StateAt bytes a r → StateAt bytes b s → Same a b r s
state_one bytes a b r s p q =
    let one = same_state a b r s p.kept q.kept (sym p.front ∙ q.front) in
    record { one = one; rest = (same_run (state_of a) (state_of b) r s (sym p.front ∙ q.front) (ap (λ m. length (state_of m)) one)).rest }

-- ---- no layout both fits and breaks

pub no_fit : (l : Layout) (bytes : List ℕ) (left : ℕ) → Breaks l bytes left → Fits l bytes → ⊥
no_fit end bytes left b f = b.1 f
no_fit (byte least most next) bytes left (inl b) f = b.1 f.0 f.1 f.2
no_fit (byte least most next) bytes left (inr b) f =
    let same = byte_one least most bytes b.0 f.0 b.1 f.1 b.2 f.2 in
    no_fit (next f.0) f.1 left (subst (λ (p : ℕ × List ℕ). Breaks (next p.0) p.1 left) (λ i. (same.one i, same.rest i)) b.3) f.3
no_fit (number size least most next) bytes left (inl b) f = b.1 f.0 f.1 f.2
no_fit (number size least most next) bytes left (inr b) f =
    let same = number_one size least most bytes b.0 f.0 b.1 f.1 b.2 f.2 in
    no_fit (next f.0) f.1 left (subst (λ (p : ℕ × List ℕ). Breaks (next p.0) p.1 left) (λ i. (same.one i, same.rest i)) b.3) f.3
no_fit (run size form next) bytes left (inl b) f = b.1 f.0 f.1 f.2
no_fit (run size form next) bytes left (inr b) f =
    let same = run_one size form bytes b.0 f.0 b.1 f.1 b.2 f.2 in
    no_fit next f.1 left (subst (λ r. Breaks next r left) same.rest b.3) f.3
no_fit (key_field size test next) bytes left (inl b) f = b.1 f.0 f.1 f.2
no_fit (key_field size test next) bytes left (inr b) f =
    let same = passing_one size test bytes b.0 f.0 b.1 f.1 b.2 f.2 in
    no_fit (next f.0) f.1 left (subst (λ (p : DocKey × List ℕ). Breaks (next p.0) p.1 left) (λ i. (same.one i, same.rest i)) b.3) f.3
no_fit (state_field next) bytes left (inl b) f = breaks_none bytes b.place b.breaks f.0 f.1 f.2.kept f.2.front
no_fit (state_field next) bytes left (inr b) f =
    let same = state_one bytes b.0 f.0 b.1 f.1 b.2 f.2 in
    no_fit (next f.0) f.1 left (subst (λ (p : Catalog × List ℕ). Breaks (next p.0) p.1 left) (λ i. (same.one i, same.rest i)) b.3) f.3

-- ---- a layout breaks at one place

pub one_place : (l : Layout) (bytes : List ℕ) (left also : ℕ) → Breaks l bytes left → Breaks l bytes also → left ≡ also
one_place end bytes left also a b = a.0 ∙ sym b.0
one_place (byte least most next) bytes left also (inl a) (inl b) = a.0 ∙ sym b.0
one_place (byte least most next) bytes left also (inl a) (inr b) = absurd (a.1 b.0 b.1 b.2)
one_place (byte least most next) bytes left also (inr a) (inl b) = absurd (b.1 a.0 a.1 a.2)
one_place (byte least most next) bytes left also (inr a) (inr b) =
    let same = byte_one least most bytes a.0 b.0 a.1 b.1 a.2 b.2 in
    one_place (next b.0) b.1 left also (subst (λ (p : ℕ × List ℕ). Breaks (next p.0) p.1 left) (λ i. (same.one i, same.rest i)) a.3) b.3
one_place (number size least most next) bytes left also (inl a) (inl b) = a.0 ∙ sym b.0
one_place (number size least most next) bytes left also (inl a) (inr b) = absurd (a.1 b.0 b.1 b.2)
one_place (number size least most next) bytes left also (inr a) (inl b) = absurd (b.1 a.0 a.1 a.2)
one_place (number size least most next) bytes left also (inr a) (inr b) =
    let same = number_one size least most bytes a.0 b.0 a.1 b.1 a.2 b.2 in
    one_place (next b.0) b.1 left also (subst (λ (p : ℕ × List ℕ). Breaks (next p.0) p.1 left) (λ i. (same.one i, same.rest i)) a.3) b.3
one_place (run size form next) bytes left also (inl a) (inl b) = a.0 ∙ sym b.0
one_place (run size form next) bytes left also (inl a) (inr b) = absurd (a.1 b.0 b.1 b.2)
one_place (run size form next) bytes left also (inr a) (inl b) = absurd (b.1 a.0 a.1 a.2)
one_place (run size form next) bytes left also (inr a) (inr b) =
    let same = run_one size form bytes a.0 b.0 a.1 b.1 a.2 b.2 in
    one_place next b.1 left also (subst (λ r. Breaks next r left) same.rest a.3) b.3
one_place (key_field size test next) bytes left also (inl a) (inl b) = a.0 ∙ sym b.0
one_place (key_field size test next) bytes left also (inl a) (inr b) = absurd (a.1 b.0 b.1 b.2)
one_place (key_field size test next) bytes left also (inr a) (inl b) = absurd (b.1 a.0 a.1 a.2)
one_place (key_field size test next) bytes left also (inr a) (inr b) =
    let same = passing_one size test bytes a.0 b.0 a.1 b.1 a.2 b.2 in
    one_place (next b.0) b.1 left also (subst (λ (p : DocKey × List ℕ). Breaks (next p.0) p.1 left) (λ i. (same.one i, same.rest i)) a.3) b.3
one_place (state_field next) bytes left also (inl a) (inl b) =
    let same = state_place bytes a.place b.place a.breaks b.breaks in
    let p = a.parts in
    let q = b.parts in
    omega arith
one_place (state_field next) bytes left also (inl a) (inr b) = absurd (breaks_none bytes a.place a.breaks b.0 b.1 b.2.kept b.2.front)
one_place (state_field next) bytes left also (inr a) (inl b) = absurd (breaks_none bytes b.place b.breaks a.0 a.1 a.2.kept a.2.front)
one_place (state_field next) bytes left also (inr a) (inr b) =
    let same = state_one bytes a.0 b.0 a.1 b.1 a.2 b.2 in
    one_place (next b.0) b.1 left also (subst (λ (p : Catalog × List ℕ). Breaks (next p.0) p.1 left) (λ i. (same.one i, same.rest i)) a.3) b.3

-- ---- what is left where it breaks is within the bytes

pub left_within : (l : Layout) (bytes : List ℕ) (left : ℕ) → Breaks l bytes left → left ≤ length bytes
left_within end bytes left b = let e = b.0 in omega arith
left_within (byte least most next) bytes left (inl b) = let e = b.0 in omega arith
left_within (byte least most next) bytes left (inr b) =
    let less = left_within (next b.0) b.1 left b.3 in
    let at = b.2 in
    omega (arith, ap length at.front)
left_within (number size least most next) bytes left (inl b) = let e = b.0 in omega arith
left_within (number size least most next) bytes left (inr b) =
    let less = left_within (next b.0) b.1 left b.3 in
    let at = b.2 in
    omega (arith, ap length at.front, length-append (to_be_bytes (width_of size) b.0) b.1)
left_within (run size form next) bytes left (inl b) = let e = b.0 in omega arith
left_within (run size form next) bytes left (inr b) =
    let less = left_within next b.1 left b.3 in
    let at = b.2 in
    omega (arith, ap length at.front, length-append b.0 b.1)
left_within (key_field size test next) bytes left (inl b) = let e = b.0 in omega arith
left_within (key_field size test next) bytes left (inr b) =
    let less = left_within (next b.0) b.1 left b.3 in
    let at = b.2 in
    omega (arith, ap length at.front, length-append (spelt_key b.0) b.1)
left_within (state_field next) bytes left (inl b) = let e = b.parts in omega arith
left_within (state_field next) bytes left (inr b) =
    let less = left_within (next b.0) b.1 left b.3 in
    let at = b.2 in
    omega (arith, ap length at.front, length-append (state_of b.0) b.1)

-- ---- from a layout to what follows its first fields

-- behind the first fields of a layout another begins, at what is left of the bytes
pub record Leads (l : Layout) (bytes : List ℕ) (m : Layout) (rest : List ℕ) : Type 0 where
  pub breaks : (left : ℕ) → Breaks m rest left → Breaks l bytes left
  pub fits : Fits m rest → Fits l bytes

pub leads_on : (l : Layout) (a : List ℕ) (m : Layout) (b : List ℕ) (n : Layout) (c : List ℕ) → Leads l a m b → Leads m b n c → Leads l a n c
leads_on l a m b n c p q = record { breaks = λ left h. p.breaks left (q.breaks left h); fits = λ f. p.fits (q.fits f) }

pub byte_leads : (least most : ℕ) (next : ℕ → Layout) (bytes : List ℕ) (n : ℕ) (rest : List ℕ) → ByteAt least most bytes n rest → Leads (byte least most next) bytes (next n) rest
byte_leads least most next bytes n rest at = record { breaks = λ left b. inr (n, rest, at, b); fits = λ f. (n, rest, at, f) }

pub number_leads : (size : Size) (least most : ℕ) (next : ℕ → Layout) (bytes : List ℕ) (n : ℕ) (rest : List ℕ) → NumberAt size least most bytes n rest → Leads (number size least most next) bytes (next n) rest
number_leads size least most next bytes n rest at = record { breaks = λ left b. inr (n, rest, at, b); fits = λ f. (n, rest, at, f) }

pub run_leads : (size : ℕ) (form : Form) (next : Layout) (bytes piece rest : List ℕ) → RunAt size form bytes piece rest → Leads (run size form next) bytes next rest
run_leads size form next bytes piece rest at = record { breaks = λ left b. inr (piece, rest, at, b); fits = λ f. (piece, rest, at, f) }

pub passing_leads : (size : ℕ) (test : DocKey → Bool) (next : DocKey → Layout) (bytes : List ℕ) (key : DocKey) (rest : List ℕ) → PassingKeyAt size test bytes key rest → Leads (key_field size test next) bytes (next key) rest
passing_leads size test next bytes key rest at = record { breaks = λ left b. inr (key, rest, at, b); fits = λ f. (key, rest, at, f) }

pub state_leads : (next : Catalog → Layout) (bytes : List ℕ) (manifest : Catalog) (rest : List ℕ) → StateAt bytes manifest rest → Leads (state_field next) bytes (next manifest) rest
state_leads next bytes manifest rest at = record { breaks = λ left b. inr (manifest, rest, at, b); fits = λ f. (manifest, rest, at, f) }

-- what was not read there was not read from the whole
pub broken_behind : (l : Layout) (bytes : List ℕ) (m : Layout) (rest : List ℕ) (fault : FieldFault) → Leads l bytes m rest → IsBroken m rest fault → IsBroken l bytes fault
broken_behind l bytes m rest (field_fault.Broken left) p b = p.breaks left b
broken_behind l bytes m rest field_fault.NoMemory p b = tt
