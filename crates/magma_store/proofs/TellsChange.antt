-- What is read of a record behind the first.
use Rattle.std.specs.Prelude.{◌≡◌, ℕ, ◌+◌, ◌≤◌, nat_eq, Bool, true, false, List, [], ◌∷◌, ◌++◌, length, if◌then◌else◌, refl}
use Rattle.std.specs.Int.{w8}
use Rattle.std.proofs.Common.{Bor, ◌≢◌, sym, ap, ap₂, ◌∙◌, subst, append-nil, arith, eq-eqb}
use Rattle.std.proofs.lemmas.Bool.{eqb-true, false≢true}
use Rattle.magma_store.specs.declared.kinds.TheConstants.{OVER, ANEW, NUMBERS}
use Rattle.magma_store.specs.declared.meta.Numbers.{Numbers}
use Rattle.magma_store.specs.declared.reading.Told.TheVariants as told
use Rattle.magma_store.specs.declared.spot.Placed.{Placed}
use Rattle.magma_store.specs.Changes.{Sets, Writes, numbers_bytes}
use Rattle.magma_store.specs.Forms.{Form, end, between, numbers_form, batch_form, change_form}
use Rattle.magma_store.specs.Fronts.{KeptAt, NumbersAt, BatchAt}
use Rattle.magma_store.specs.Reading.{IsTold}
use Rattle.magma_store.specs.Spots.{placed}
use Rattle.magma_store.proofs.Leads.{wide8, Leads, leads_on, field_leads, bounded, differ}
use Rattle.magma_store.proofs.Parts.{byte_front, numbers_lead}

-- what follows the byte that says which change it is, and its numbers
abbrev pub behind_numbers : ℕ → Form
behind_numbers kind = if nat_eq kind NUMBERS then end else batch_form

pub kind_leads : (held : List ℕ) (kind : ℕ) (behind : List ℕ) → KeptAt w8 (between OVER NUMBERS) held kind behind → Leads change_form held (numbers_form (behind_numbers kind)) behind
kind_leads held kind behind k = field_leads w8 wide8 (between OVER NUMBERS) (λ kind. numbers_form (behind_numbers kind)) held kind behind k

both_lead : (held : List ℕ) (kind : ℕ) (behind : List ℕ) (n : Numbers) (rest : List ℕ) → KeptAt w8 (between OVER NUMBERS) held kind behind → NumbersAt behind n rest → Leads change_form held (behind_numbers kind) rest
both_lead held kind behind n rest k t = leads_on (kind_leads held kind behind k) (numbers_lead (behind_numbers kind) behind n rest t)

pub sets_lead : (held : List ℕ) (kind : ℕ) (behind : List ℕ) (n : Numbers) (rest : List ℕ) → KeptAt w8 (between OVER NUMBERS) held kind behind → NumbersAt behind n rest → kind ≡ NUMBERS → Leads change_form held end rest
sets_lead held kind behind n rest k t is =
    subst (λ b. Leads change_form held (if b then end else batch_form) rest) (eq-eqb kind NUMBERS is) (both_lead held kind behind n rest k t)

pub writes_lead : (held : List ℕ) (kind : ℕ) (behind : List ℕ) (n : Numbers) (rest : List ℕ) → KeptAt w8 (between OVER NUMBERS) held kind behind → NumbersAt behind n rest → (kind ≡ NUMBERS → ⊥) → Leads change_form held batch_form rest
writes_lead held kind behind n rest k t other =
    subst (λ b. Leads change_form held (if b then end else batch_form) rest) (differ kind NUMBERS other) (both_lead held kind behind n rest k t)

pub sets_told : (at : ℕ) (held : List ℕ) (kind : ℕ) (behind : List ℕ) (n : Numbers) (rest : List ℕ) → KeptAt w8 (between OVER NUMBERS) held kind behind → NumbersAt behind n rest → kind ≡ NUMBERS → rest ≡ [] → IsTold at held (told.Sets n)
sets_told at held kind behind n rest k t is none = record {
  change = Sets n;
  allowed = (t.allowed, t.words);
  spelled = byte_front held kind behind k.at ∙ ap₂ (λ b l. b ∷ l) is (t.front ∙ ap (λ l. numbers_bytes n ++ l) none ∙ append-nil (numbers_bytes n));
  tells = refl;
}

kind_is : (kind : ℕ) → OVER ≤ kind → kind ≤ NUMBERS → (kind ≡ NUMBERS → ⊥) → (if nat_eq kind 2 then ANEW else OVER) ≡ kind
kind_is kind least most other = go (nat_eq kind 2) refl
  where
    go : (b : Bool) → nat_eq kind 2 ≡ b → (if b then ANEW else OVER) ≡ kind
    go true e = sym (eqb-true kind 2 e)
    go false e =
        let first : kind ≢ 2 = λ is. false≢true (sym e ∙ eq-eqb kind 2 is) in
        let second : kind ≢ 3 = other in
        omega arith

pub writes_told : (at : ℕ) (held : List ℕ) (kind : ℕ) (behind : List ℕ) (n : Numbers) (rest : List ℕ) (tail : Bor (List ℕ)) (places : List Placed) → KeptAt w8 (between OVER NUMBERS) held kind behind → NumbersAt behind n rest
    → (kind ≡ NUMBERS → ⊥) → BatchAt (at + 41) rest tail.now places → IsTold at held (told.Writes (nat_eq kind 2) n tail places)
writes_told at held kind behind n rest tail places k t other b =
    let within = bounded OVER NUMBERS kind k.kept in
    let offset : at + 41 + (8 + length tail.now) ≡ at + (49 + length tail.now) = omega arith in
    record {
      change = Writes (nat_eq kind 2) n tail.now b.items;
      allowed = (t.allowed, t.words, b.short, b.few, b.allowed);
      spelled = byte_front held kind behind k.at ∙ ap₂ (λ x l. x ∷ l) (sym (kind_is kind within.above within.below other)) (t.front ∙ ap (λ l. numbers_bytes n ++ l) b.whole);
      tells = (refl, refl, refl, b.are ∙ ap (λ m. placed m b.items) offset);
    }
