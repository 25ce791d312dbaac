-- What a store's records say is told by their bytes, and their bytes keep their form.
use Rattle.std.specs.Prelude.{◌≡◌, ℕ, ◌-◌, ◌≤◌, ◌<◌, ◌^◌, nat_eq, Bool, true, false, List, [], ◌∷◌, ◌++◌, length, map as list_map, Option, Some, None, if◌then◌else◌, refl}
use Rattle.std.specs.Int.{w8, w32, w64, to_be_bytes}
use Rattle.std.specs.List.{flat_map, AllByRecursion}
use Rattle.std.proofs.Common.{sym, ap, ap₂, ◌∙◌, subst, append_assoc, append-nil, arith}
use Rattle.durability_core.specs.declared.chain.Chain.{Chain}
use Rattle.durability_core.specs.Chains.{IsChain, IsName}
use Rattle.kv_edge.proofs.Fields.{wide32, wide64}
use Rattle.vb_log.specs.Contents.{items_bytes}
use Rattle.vb_log.specs.Spelling.{sized}
use Rattle.vb_log.proofs.Layouts.{Same, same_byte, same_run}
use Rattle.magma_store.specs.declared.kinds.TheConstants.{MAGIC, OVER, ANEW, NUMBERS}
use Rattle.magma_store.specs.declared.meta.Numbers.{Numbers}
use Rattle.magma_store.specs.Changes.{Change, Sets, Writes, AreWords, IsChange, name_bytes, made_bytes, numbers_bytes, change_bytes}
use Rattle.magma_store.specs.Forms.{Form, end, field, between, made_form, change_form, numbers_form, batch_form, next_form, Breaks}
use Rattle.magma_store.specs.Held.{records_of}
use Rattle.magma_store.proofs.Leads.{Leads, leads_on, same_field}
use Rattle.magma_store.proofs.Parts.{numbers_parted, numbers_lead, byte_leads, chain_leads}
use Rattle.magma_store.proofs.Batches.{batch_leads}
use Rattle.magma_store.proofs.StoredItems.{flat, same_items}

-- ---- names

abbrev Names : Type 0
Names = List (Option (List ℕ))

same_name : (a b : Option (List ℕ)) (r s : List ℕ) → IsName a → IsName b → name_bytes a ++ r ≡ name_bytes b ++ s → Same a b r s
same_name None None r s h k e = record { one = refl; rest = (same_byte 0 0 r s e).rest }
same_name None (Some b) r s h k e = absurd (let some = k.0 in omega (arith, (same_byte 0 (length b) r (b ++ s) e).one))
same_name (Some a) None r s h k e = absurd (let some = h.0 in omega (arith, (same_byte (length a) 0 (a ++ r) s e).one))
same_name (Some a) (Some b) r s h k e =
    let size = same_byte (length a) (length b) (a ++ r) (b ++ s) e in
    let name = same_run a b r s size.rest size.one in
    record { one = ap Some name.one; rest = name.rest }

same_names : (xs ys : Names) (r s : List ℕ) → AllByRecursion IsName xs → AllByRecursion IsName ys → length xs ≡ length ys → flat_map name_bytes xs ++ r ≡ flat_map name_bytes ys ++ s → Same xs ys r s
same_names [] [] r s h k len e = record { one = refl; rest = e }
same_names [] (b ∷ ys) r s h k len e = absurd (omega arith)
same_names (a ∷ xs) [] r s h k len e = absurd (omega arith)
same_names (a ∷ xs) (b ∷ ys) r s h k len e =
    let first = same_name a b (flat_map name_bytes xs ++ r) (flat_map name_bytes ys ++ s) h.0 k.0 (sym (append_assoc (name_bytes a) (flat_map name_bytes xs) r) ∙ e ∙ append_assoc (name_bytes b) (flat_map name_bytes ys) s) in
    let shorter : length xs ≡ length ys = omega arith in
    let more = same_names xs ys r s h.1 k.1 shorter first.rest in
    record { one = ap₂ (λ z zs. z ∷ zs) first.one more.one; rest = more.rest }

-- ---- the record with which a store is made

pub record SameMaking (a b : Chain) (p q : ℕ) : Type 0 where
  pub chain : a ≡ b
  pub place : p ≡ q

pub one_making : (a b : Chain) (p q : ℕ) → IsChain a → IsChain b → made_bytes a p ≡ made_bytes b q → SameMaking a b p q
one_making a b p q h k e =
    let magic = same_run (to_be_bytes w32 MAGIC) (to_be_bytes w32 MAGIC) (length a.names ∷ (flat_map name_bytes a.names ++ p ∷ [])) (length b.names ∷ (flat_map name_bytes b.names ++ q ∷ [])) e refl in
    let count = same_byte (length a.names) (length b.names) (flat_map name_bytes a.names ++ p ∷ []) (flat_map name_bytes b.names ++ q ∷ []) magic.rest in
    let names = same_names a.names b.names (p ∷ []) (q ∷ []) h.names k.names count.one count.rest in
    record { chain = λ i. record { names = names.one i }; place = (same_byte p q [] [] names.rest).one }

pub making_kept : (chain : Chain) (place : ℕ) → IsChain chain → place < length chain.names → (left found expected : ℕ) → Breaks made_form (made_bytes chain place) left found expected → ⊥
making_kept chain place h there left found expected b =
    let few = h.few in
    let some = h.some in
    let last : ℕ → Form = λ count. field w8 (between 0 (count - 1)) (λ place. end) in
    let leads =
    leads_on
    (chain_leads last (made_bytes chain place) chain (place ∷ []) (record { allowed = h; front = refl }))
    (byte_leads 0 (length chain.names - 1) (λ place. end) (place ∷ []) place [] refl (omega arith) (omega arith) (omega arith)) in
    (leads.only left found expected b).0 refl

-- ---- a change

same_numbers : (a b : Numbers) (r s : List ℕ) → AreWords a → AreWords b → numbers_bytes a ++ r ≡ numbers_bytes b ++ s → Same a b r s
same_numbers a b r s h k e =
    let promise = same_field w64 (2 ^ 64) wide64 a.promise b.promise _ _ h.promise k.promise (sym (numbers_parted a r) ∙ e ∙ numbers_parted b s) in
    let accepted = same_field w64 (2 ^ 64) wide64 a.accepted b.accepted _ _ h.accepted k.accepted promise.rest in
    let incarnation = same_field w64 (2 ^ 64) wide64 a.incarnation b.incarnation _ _ h.incarnation k.incarnation accepted.rest in
    let log = same_field w64 (2 ^ 64) wide64 a.length b.length _ _ h.length k.length incarnation.rest in
    let cas = same_field w64 (2 ^ 64) wide64 a.cas b.cas r s h.cas k.cas log.rest in
    record {
      one = λ i. record { promise = promise.one i; accepted = accepted.one i; incarnation = incarnation.one i; length = log.one i; cas = cas.one i };
      rest = cas.rest;
    }

same_sized : (a b r s : List ℕ) → length a < 2 ^ 32 → length b < 2 ^ 32 → sized a ++ r ≡ sized b ++ s → Same a b r s
same_sized a b r s low high e =
    let size = same_field w32 (2 ^ 32) wide32 (length a) (length b) (a ++ r) (b ++ s) low high
    (sym (append_assoc (to_be_bytes w32 (length a)) a r) ∙ e ∙ append_assoc (to_be_bytes w32 (length b)) b s) in
    same_run a b r s size.rest size.one

-- the byte that says whether items take the place of those that are there
abbrev kind_of : Bool → ℕ
kind_of is_anew = if is_anew then ANEW else OVER

same_kind : (a b : Bool) → kind_of a ≡ kind_of b → a ≡ b
same_kind true true e = refl
same_kind true false e = absurd (omega arith)
same_kind false true e = absurd (omega arith)
same_kind false false e = refl

never_sets : (a : Bool) → kind_of a ≡ NUMBERS → ⊥
never_sets true e = omega arith
never_sets false e = omega arith

ended : (a b : List ℕ) → a ≡ b → a ++ [] ≡ b ++ []
ended a b e = ap (λ l. l ++ []) e

pub one_change : (a b : Change) → IsChange a → IsChange b → change_bytes a ≡ change_bytes b → a ≡ b
one_change (Sets m) (Sets n) h k e =
    let first = same_byte NUMBERS NUMBERS (numbers_bytes m) (numbers_bytes n) e in
    ap Sets (same_numbers m n [] [] h.1 k.1 (ended (numbers_bytes m) (numbers_bytes n) first.rest)).one
one_change (Sets m) (Writes anew n tail items) h k e = absurd (never_sets anew (sym (same_byte NUMBERS (kind_of anew) _ _ e).one))
one_change (Writes anew n tail items) (Sets m) h k e = absurd (never_sets anew (same_byte (kind_of anew) NUMBERS _ _ e).one)
one_change (Writes anew m tail items) (Writes also n other more) h k e =
    let first = same_byte (kind_of anew) (kind_of also) (numbers_bytes m ++ (sized tail ++ items_bytes items)) (numbers_bytes n ++ (sized other ++ items_bytes more)) e in
    let kind = same_kind anew also first.one in
    let numbers = same_numbers m n (sized tail ++ items_bytes items) (sized other ++ items_bytes more) h.1 k.1 first.rest in
    let tails = same_sized tail other (items_bytes items) (items_bytes more) h.2 k.2 numbers.rest in
    let count = same_field w32 (2 ^ 32) wide32 (length items) (length more) (flat items) (flat more) h.3 k.3 tails.rest in
    let all = same_items items more [] [] h.4 k.4 count.one (ended (flat items) (flat more) count.rest) in
    λ i. Writes (kind i) (numbers.one i) (tails.one i) (all.one i)

pub one_changes : (xs ys : List Change) → AllByRecursion IsChange xs → AllByRecursion IsChange ys → list_map change_bytes xs ≡ list_map change_bytes ys → xs ≡ ys
one_changes [] [] h k e = refl
one_changes [] (b ∷ ys) h k e = absurd (cc)
one_changes (a ∷ xs) [] h k e = absurd (cc)
one_changes (a ∷ xs) (b ∷ ys) h k e =
    let first : change_bytes a ≡ change_bytes b = cc in
    let rest : list_map change_bytes xs ≡ list_map change_bytes ys = cc in
    ap₂ (λ z zs. z ∷ zs) (one_change a b h.0 k.0 first) (one_changes xs ys h.1 k.1 rest)

change_leads : (kind : ℕ) (behind : List ℕ) → OVER ≤ kind → kind ≤ NUMBERS → Leads change_form (kind ∷ behind) (numbers_form (if nat_eq kind NUMBERS then end else batch_form)) behind
change_leads kind behind least most = byte_leads OVER NUMBERS (λ kind. numbers_form (if nat_eq kind NUMBERS then end else batch_form)) (kind ∷ behind) kind behind refl least most (omega arith)

pub change_kept : (c : Change) → IsChange c → (left found expected : ℕ) → Breaks change_form (change_bytes c) left found expected → ⊥
change_kept (Sets n) h left found expected b =
    let leads =
    leads_on
    (change_leads NUMBERS (numbers_bytes n) (omega arith) (omega arith))
    (numbers_lead end (numbers_bytes n) n [] (record { allowed = h.0; words = h.1; front = sym (append-nil (numbers_bytes n)) })) in
    (leads.only left found expected b).0 refl
change_kept (Writes true n tail items) h left found expected b =
    let rest = sized tail ++ items_bytes items in
    let leads =
    leads_on
    (change_leads ANEW (numbers_bytes n ++ rest) (omega arith) (omega arith))
    (leads_on
    (numbers_lead batch_form (numbers_bytes n ++ rest) n rest (record { allowed = h.0; words = h.1; front = refl }))
    (batch_leads tail items h.2 h.3 h.4)) in
    (leads.only left found expected b).0 refl
change_kept (Writes false n tail items) h left found expected b =
    let rest = sized tail ++ items_bytes items in
    let leads =
    leads_on
    (change_leads OVER (numbers_bytes n ++ rest) (omega arith) (omega arith))
    (leads_on
    (numbers_lead batch_form (numbers_bytes n ++ rest) n rest (record { allowed = h.0; words = h.1; front = refl }))
    (batch_leads tail items h.2 h.3 h.4)) in
    (leads.only left found expected b).0 refl

-- ---- all records

-- one of some changes' bytes is that of a change
record IsOneOf (held : List ℕ) : Type 0 where
  change : Change
  allowed : IsChange change
  is : held ≡ change_bytes change

one_of : (before : List (List ℕ)) (held : List ℕ) (after : List (List ℕ)) (changes : List Change) → AllByRecursion IsChange changes → list_map change_bytes changes ≡ before ++ held ∷ after → IsOneOf held
one_of [] held after [] h e = absurd (cc)
one_of [] held after (c ∷ cs) h e = record { change = c; allowed = h.0; is = cc }
one_of (b ∷ before) held after [] h e = absurd (cc)
one_of (b ∷ before) held after (c ∷ cs) h e = one_of before held after cs h.1 (cc)

-- no record of a store breaks the form that it has where it stands
pub records_kept : (before : List (List ℕ)) (held : List ℕ) (after : List (List ℕ)) (chain : Chain) (place : ℕ) (changes : List Change) → IsChain chain → place < length chain.names → AllByRecursion IsChange changes
    → records_of chain place changes ≡ before ++ held ∷ after → (left found expected : ℕ) → Breaks (next_form before) held left found expected → ⊥
records_kept [] held after chain place changes h there all e left found expected b =
    let is : held ≡ made_bytes chain place = cc in
    making_kept chain place h there left found expected (subst (λ l. Breaks made_form l left found expected) is b)
records_kept (first ∷ before) held after chain place changes h there all e left found expected b =
    let rest : list_map change_bytes changes ≡ before ++ held ∷ after = cc in
    let one = one_of before held after changes all rest in
    change_kept one.change one.allowed left found expected (subst (λ l. Breaks change_form l left found expected) one.is b)
