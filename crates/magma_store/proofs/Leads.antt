-- Fields at the front of bytes: what their form is broken by, and the form of what follows them.
use Rattle.std.specs.Prelude.{◌≡◌, ◌⊎◌, ℕ, ◌%◌, ◌≤◌, ◌<◌, ◌^◌, nat_eq, nat_lt, Bool, true, false, List, [], ◌∷◌, ◌++◌, length, drop, Option, Some, None, Result, Ok, Err, IfErr, IsErrAnd, if◌then◌else◌, refl}
use Rattle.std.specs.Int.{Width, w8, byte_len, to_be_bytes, from_be_bytes}
use Rattle.std.proofs.Common.{inl, inr, sym, ap, ◌∙◌, subst, arith, eq-eqb}
use Rattle.std.proofs.lemmas.Bool.{ltb-true, ltb-false, le-ltb, eqb-true, false≢true}
use Rattle.std.proofs.lemmas.List.{length-append, drop_at}
use Rattle.kv_edge.specs.Fields.{IsBytes, byte_at, number_at}
use Rattle.kv_edge.proofs.Fields.{IsWide, byte_takes, number_takes, number_again, byte_size, number_size}
use Rattle.vb_log.proofs.Layouts.{Same}
use Rattle.magma_store.specs.declared.fields.FormFault.{FormFault}
use Rattle.magma_store.specs.declared.fields.FormFault.TheVariants as fault
use Rattle.magma_store.specs.Forms.{Form, field, run, between, exactly, accepted_within, FieldAt, Breaks, IsBroken}
use Rattle.magma_store.specs.Fronts.{KeptAt, RunAt}

-- ---- numbers of any width

-- a byte by itself is a number of its own
pub wide8 : IsWide w8 (2 ^ 8)
wide8 = record {
  len = λ n. refl;
  back = back;
  again = λ n lt. same n lt;
  below = λ bytes fits. omega (arith, fits 0);
}
  where
    same : (n : ℕ) → n < 2 ^ 8 → n % 256 ≡ n
    same n lt = omega arith

    back : (bytes : List ℕ) → length bytes ≡ 1 → IsBytes bytes → to_be_bytes w8 (from_be_bytes w8 bytes) ≡ bytes
    back [] len fits = absurd (omega arith)
    back (b ∷ []) len fits = ap (λ n. n ∷ []) (same b (omega (arith, fits 0)))
    back (b ∷ c ∷ more) len fits = absurd (omega arith)

pair_is : (a c : ℕ) (b d : List ℕ) → Some (let p : ℕ × List ℕ = (a, b) in p) ≡ Some (let p : ℕ × List ℕ = (c, d) in p) → Same a c b d
pair_is a c b d e = let same = some_is (let p : ℕ × List ℕ = (a, b) in p) (let p : ℕ × List ℕ = (c, d) in p) e in record { one = ap (λ p. p.0) same; rest = ap (λ p. p.1) same }
  where
    some_is : {A : Type 0} (x y : A) → Some x ≡ Some y → x ≡ y
    some_is x y q = cc

-- a front is one number
pub same_field : (w : Width) (limit : ℕ) → IsWide w limit → (a b : ℕ) (r s : List ℕ) → a < limit → b < limit → to_be_bytes w a ++ r ≡ to_be_bytes w b ++ s → Same a b r s
same_field w limit wide a b r s low high e =
    pair_is a b r s (sym (number_again w limit wide a r low) ∙ ap (number_at w) e ∙ number_again w limit wide b s high)

-- ---- one field that was read, or wasn't

-- a byte that was read
pub byte_found : (bytes : List ℕ) (n : ℕ) (rest : List ℕ) → IsBytes bytes → byte_at bytes ≡ Some (n, rest) → FieldAt w8 bytes n rest
byte_found bytes n rest fits e =
    let t = byte_takes bytes n rest fits e in
    let low : n < 2 ^ 8 = t.1 in
    let same : n % 256 ≡ n = omega arith in
    record { front = t.0.parts ∙ ap (λ k. k ∷ rest) (sym same); small = low }

-- a number that was read
pub field_found : (w : Width) → IsWide w (256 ^ byte_len w) → (bytes : List ℕ) (n : ℕ) (rest : List ℕ) → IsBytes bytes → number_at w bytes ≡ Some (n, rest) → FieldAt w bytes n rest
field_found w wide bytes n rest fits e =
    let t = number_takes w (256 ^ byte_len w) wide bytes n rest fits e in
    record { front = t.0.parts; small = t.1 }

-- too few bytes are left
pub short_broken : (w : Width) (broken : ℕ → Option ℕ) (next : ℕ → Form) (bytes : List ℕ) (size : ℕ) (why : FormFault) → why ≡ fault.Broken (length bytes) (length bytes) size → size ≡ byte_len w → length bytes < byte_len w → IsBroken (field w broken next) bytes why
short_broken w broken next bytes size why is len few =
    subst (IsBroken (field w broken next) bytes) (sym is) (inl (few, refl, refl, len))

pub byte_short : (bytes : List ℕ) → byte_at bytes ≡ None → length bytes < byte_len w8
byte_short bytes e = byte_size.short bytes e

pub number_short : (w : Width) (bytes : List ℕ) → number_at w bytes ≡ None → length bytes < byte_len w
number_short w bytes e = (number_size w).short bytes e

-- ---- bounds

pub is_between : (least most n : ℕ) → least ≤ n → n ≤ most → between least most n ≡ None
is_between least most n above below = rw (le-ltb n least above, le-ltb most n below) refl

pub record Bounded (least most n : ℕ) : Type 0 where
  pub above : least ≤ n
  pub below : n ≤ most

pub bounded : (least most n : ℕ) → between least most n ≡ None → Bounded least most n
bounded least most n e = go (nat_lt n least) refl (nat_lt most n) refl e
  where
    go : (a : Bool) → nat_lt n least ≡ a → (b : Bool) → nat_lt most n ≡ b → (if a then Some least else (if b then Some most else None)) ≡ None → Bounded least most n
    go true p b q h = absurd (cc)
    go false p true q h = absurd (cc)
    go false p false q h = record { above = ltb-false n least p; below = ltb-false most n q }

pub exactly_that : (n : ℕ) → exactly n n ≡ None
exactly_that n = rw (eq-eqb n n refl) refl

pub differ : (a b : ℕ) → (a ≡ b → ⊥) → nat_eq a b ≡ false
differ a b other = go (nat_eq a b) refl
  where
    go : (x : Bool) → nat_eq a b ≡ x → x ≡ false
    go true e = absurd (other (eqb-true a b e))
    go false e = refl

pub accepted_kept : (promise n : ℕ) → n ≤ promise → (n ≡ 0) ⊎ (4 ≤ n) → accepted_within promise n ≡ None
accepted_kept promise n low term = go (nat_eq n 0) refl (nat_lt n 4) refl (nat_lt promise n) refl term
  where
    go : (a : Bool) → nat_eq n 0 ≡ a → (b : Bool) → nat_lt n 4 ≡ b → (c : Bool) → nat_lt promise n ≡ c → (n ≡ 0) ⊎ (4 ≤ n)
        → (if a then None else (if b then Some 4 else (if c then Some promise else None))) ≡ None
    go true p b q c r t = refl
    go false p b q true r t = absurd (let high = ltb-true promise n r in omega arith)
    go false p false q false r t = refl
    go false p true q false r (inl none) = absurd (false≢true (sym p ∙ eq-eqb n 0 none))
    go false p true q false r (inr some) = absurd (let less = ltb-true n 4 q in omega arith)

pub record IsTerm (promise n : ℕ) : Type 0 where
  pub promised : n ≤ promise
  pub term : (n ≡ 0) ⊎ (4 ≤ n)

pub accepted_is : (promise n : ℕ) → accepted_within promise n ≡ None → IsTerm promise n
accepted_is promise n e = go (nat_eq n 0) refl (nat_lt n 4) refl (nat_lt promise n) refl e
  where
    go : (a : Bool) → nat_eq n 0 ≡ a → (b : Bool) → nat_lt n 4 ≡ b → (c : Bool) → nat_lt promise n ≡ c
        → (if a then None else (if b then Some 4 else (if c then Some promise else None))) ≡ None → IsTerm promise n
    go true p b q c r h = let none = eqb-true n 0 p in record { promised = omega arith; term = inl none }
    go false p true q c r h = absurd (cc)
    go false p false q true r h = absurd (cc)
    go false p false q false r h = record { promised = ltb-false promise n r; term = inr (ltb-false n 4 q) }

-- ---- from a form to what follows its first fields

-- Behind the first fields of a form another begins, at what is left of the bytes: they break the one exactly where they
-- break the other.
pub record Leads (form : Form) (bytes : List ℕ) (next : Form) (rest : List ℕ) : Type 0 where
  pub breaks : (left found expected : ℕ) → Breaks next rest left found expected → Breaks form bytes left found expected
  pub only : (left found expected : ℕ) → Breaks form bytes left found expected → Breaks next rest left found expected

pub leads_on : {l m n : Form} {a b c : List ℕ} → Leads l a m b → Leads m b n c → Leads l a n c
leads_on p q = record { breaks = λ left found expected h. p.breaks left found expected (q.breaks left found expected h); only = λ left found expected h. q.only left found expected (p.only left found expected h) }

pub field_leads : (w : Width) → IsWide w (256 ^ byte_len w) → (broken : ℕ → Option ℕ) (next : ℕ → Form) (bytes : List ℕ) (n : ℕ) (rest : List ℕ) → KeptAt w broken bytes n rest → Leads (field w broken next) bytes (next n) rest
field_leads w wide broken next bytes n rest k =
    let at = k.at in
    record {
      breaks = λ left found expected b. inr (n, rest, at, inr (k.kept, b));
      only = λ left found expected b. elim b [
        | inl short ↦ absurd (let few = short.0 in omega (arith, ap length at.front, length-append (to_be_bytes w n) rest, wide.len n))
        | inr there ↦
            let same = same_field w (256 ^ byte_len w) wide there.0 n there.1 rest there.2.small at.small (sym there.2.front ∙ at.front) in
            go left found expected there.0 there.1 same there.3
      ];
    }
  where
    go : (left found expected m : ℕ) (behind : List ℕ) → Same m n behind rest
        → ((broken m ≡ Some expected) × (left ≡ length bytes) × (found ≡ m)) ⊎ ((broken m ≡ None) × Breaks (next m) behind left found expected) → Breaks (next n) rest left found expected
    go left found expected m behind same (inl over) = let clash : None ≡ Some expected = sym k.kept ∙ ap broken (sym same.one) ∙ over.0 in absurd (cc)
    go left found expected m behind same (inr fine) = subst (λ (p : ℕ × List ℕ). Breaks (next p.0) p.1 left found expected) (λ i. (same.one i, same.rest i)) fine.1

pub run_leads : (size : ℕ) (next : Form) (bytes piece rest : List ℕ) → RunAt size bytes piece rest → Leads (run size next) bytes next rest
run_leads size next bytes piece rest at =
    let behind : drop size bytes ≡ rest = ap (drop size) at.front ∙ drop_at piece rest size at.whole in
    let long : size ≤ length bytes = omega (arith, ap length at.front, length-append piece rest, at.whole) in
    record {
      breaks = λ left found expected b. inr (long, subst (λ l. Breaks next l left found expected) (sym behind) b);
      only = λ left found expected b. elim b [
        | inl short ↦ absurd (let few = short.0 in omega arith)
        | inr there ↦ subst (λ l. Breaks next l left found expected) behind there.1
      ];
    }

-- ---- what wasn't read

-- what was not read there was not read from the whole
pub broken_behind : {form : Form} {bytes : List ℕ} {next : Form} {rest : List ℕ} (why : FormFault) → Leads form bytes next rest → IsBroken next rest why → IsBroken form bytes why
broken_behind (fault.Broken left found expected) p b = p.breaks left found expected b
broken_behind fault.NoMemory p b = tt

-- what a `?` hands on
pub handed : {T : Type 0} (r : Result T FormFault) (why : FormFault) (P : FormFault → Type 0) → IsErrAnd r (λ y. y ≡ why) → P why → IfErr r P
handed (Ok x) why P h p = absurd h
handed (Err y) why P h p = subst P (sym h) p
