-- The parts of a record: from the form of one to what follows it.
use Rattle.std.specs.Prelude.{◌≡◌, ℕ, zero, suc, ◌+◌, ◌%◌, ◌≤◌, ◌<◌, ◌^◌, List, [], ◌∷◌, ◌++◌, length, Option, Some, None, IsTrue, is_some, refl}
use Rattle.std.specs.Int.{w8, w32, w64, to_be_bytes}
use Rattle.std.specs.List.{flat_map, AllByRecursion}
use Rattle.std.proofs.Common.{sym, ap, ap₂, ◌∙◌, append_assoc, append-nil, arith}
use Rattle.std.proofs.lemmas.List.{length-append}
use Rattle.durability_core.specs.declared.chain.Chain.{Chain}
use Rattle.durability_core.specs.Chains.{IsName, begins_named}
use Rattle.kv_edge.proofs.Fields.{wide32, wide64}
use Rattle.magma_store.specs.declared.fields.FormFault.{FormFault}
use Rattle.magma_store.specs.declared.kinds.TheConstants.{MAGIC}
use Rattle.magma_store.specs.declared.meta.Numbers.{Numbers}
use Rattle.magma_store.specs.Changes.{name_bytes, numbers_bytes}
use Rattle.magma_store.specs.Forms.{Form, field, run, any, exactly, between, accepted_within, names_form, numbers_form, FieldAt, IsBroken}
use Rattle.magma_store.specs.Fronts.{KeptAt, terms_form, counts_form, TermsAt, CountsAt, NumbersAt, name_length, NameAt, name_form, NamesAt, chain_form, ChainAt}
use Rattle.magma_store.proofs.Leads.{wide8, Leads, leads_on, field_leads, run_leads, accepted_kept, accepted_is, is_between, exactly_that, bounded, broken_behind}

-- ---- numbers

-- any number of eight bytes
pub any_leads : (next : ℕ → Form) (bytes : List ℕ) (n : ℕ) (rest : List ℕ) → FieldAt w64 bytes n rest → Leads (field w64 any next) bytes (next n) rest
any_leads next bytes n rest at = field_leads w64 wide64 any next bytes n rest (record { at = at; kept = refl })

long_at : (n : ℕ) (rest : List ℕ) → n < 2 ^ 64 → FieldAt w64 (to_be_bytes w64 n ++ rest) n rest
long_at n rest low = record { front = refl; small = low }

pub terms_lead : (next : Form) (bytes : List ℕ) (promise accepted : ℕ) (rest : List ℕ) → TermsAt bytes promise accepted rest → Leads (terms_form next) bytes next rest
terms_lead next bytes promise accepted rest t =
    let behind = to_be_bytes w64 accepted ++ rest in
    leads_on
    (any_leads (λ promise. field w64 (accepted_within promise) (λ accepted. next)) bytes promise behind (record { front = t.front; small = t.promise_small }))
    (field_leads w64 wide64 (accepted_within promise) (λ accepted. next) behind accepted rest (record { at = long_at accepted rest t.accepted_small; kept = accepted_kept promise accepted t.promised t.term }))

pub terms_found : (bytes : List ℕ) (promise accepted : ℕ) (behind rest : List ℕ) → FieldAt w64 bytes promise behind → KeptAt w64 (accepted_within promise) behind accepted rest → TermsAt bytes promise accepted rest
terms_found bytes promise accepted behind rest p a =
    let term = accepted_is promise accepted a.kept in
    record {
      promised = term.promised;
      term = term.term;
      promise_small = p.small;
      accepted_small = a.at.small;
      front = p.front ∙ ap (λ l. to_be_bytes w64 promise ++ l) a.at.front;
    }

pub counts_lead : (next : Form) (bytes : List ℕ) (incarnation log cas : ℕ) (rest : List ℕ) → CountsAt bytes incarnation log cas rest → Leads (counts_form next) bytes next rest
counts_lead next bytes incarnation log cas rest t =
    let third = to_be_bytes w64 cas ++ rest in
    let second = to_be_bytes w64 log ++ third in
    leads_on
    (any_leads (λ incarnation. field w64 any (λ log. field w64 any (λ cas. next))) bytes incarnation second (record { front = t.front; small = t.incarnation_small }))
    (leads_on
    (any_leads (λ log. field w64 any (λ cas. next)) second log third (long_at log third t.log_small))
    (any_leads (λ cas. next) third cas rest (long_at cas rest t.cas_small)))

pub counts_found : (bytes : List ℕ) (incarnation log cas : ℕ) (second third rest : List ℕ) → FieldAt w64 bytes incarnation second → FieldAt w64 second log third → FieldAt w64 third cas rest → CountsAt bytes incarnation log cas rest
counts_found bytes incarnation log cas second third rest p q r = record {
  incarnation_small = p.small;
  log_small = q.small;
  cas_small = r.small;
  front = p.front ∙ ap (λ l. to_be_bytes w64 incarnation ++ l) (q.front ∙ ap (λ l. to_be_bytes w64 log ++ l) r.front);
}

regroup : (u v w x y r : List ℕ) → (u ++ (v ++ (w ++ (x ++ y)))) ++ r ≡ u ++ (v ++ (w ++ (x ++ (y ++ r))))
regroup u v w x y r = simp append_assoc

-- five numbers, one behind the other
pub numbers_parted : (n : Numbers) (r : List ℕ) → numbers_bytes n ++ r ≡ to_be_bytes w64 n.promise ++ (to_be_bytes w64 n.accepted ++ (to_be_bytes w64 n.incarnation ++ (to_be_bytes w64 n.length ++ (to_be_bytes w64 n.cas ++ r))))
numbers_parted n r = regroup (to_be_bytes w64 n.promise) (to_be_bytes w64 n.accepted) (to_be_bytes w64 n.incarnation) (to_be_bytes w64 n.length) (to_be_bytes w64 n.cas) r

pub numbers_lead : (next : Form) (bytes : List ℕ) (n : Numbers) (rest : List ℕ) → NumbersAt bytes n rest → Leads (numbers_form next) bytes next rest
numbers_lead next bytes n rest t =
    let counts = to_be_bytes w64 n.incarnation ++ (to_be_bytes w64 n.length ++ (to_be_bytes w64 n.cas ++ rest)) in
    let words = t.words in
    let allowed = t.allowed in
    leads_on
    (terms_lead (counts_form next) bytes n.promise n.accepted counts (record {
      promised = allowed.promised;
      term = allowed.term;
      promise_small = words.promise;
      accepted_small = words.accepted;
      front = t.front ∙ numbers_parted n rest;
    }))
    (counts_lead next counts n.incarnation n.length n.cas rest (record { incarnation_small = words.incarnation; log_small = words.length; cas_small = words.cas; front = refl }))

pub numbers_found : (bytes : List ℕ) (n : Numbers) (behind rest : List ℕ) → TermsAt bytes n.promise n.accepted behind → CountsAt behind n.incarnation n.length n.cas rest → NumbersAt bytes n rest
numbers_found bytes n behind rest t c = record {
  allowed = record { promised = t.promised; term = t.term };
  words = record { promise = t.promise_small; accepted = t.accepted_small; incarnation = c.incarnation_small; length = c.log_small; cas = c.cas_small };
  front = t.front ∙ ap (λ l. to_be_bytes w64 n.promise ++ (to_be_bytes w64 n.accepted ++ l)) c.front ∙ sym (numbers_parted n rest);
}

-- ---- a name

byte_of : (n : ℕ) (rest bytes : List ℕ) → n < 2 ^ 8 → bytes ≡ n ∷ rest → FieldAt w8 bytes n rest
byte_of n rest bytes low e = let same : n % 256 ≡ n = omega arith in record { front = e ∙ ap (λ k. k ∷ rest) (sym same); small = low }

pub byte_front : (bytes : List ℕ) (n : ℕ) (rest : List ℕ) → FieldAt w8 bytes n rest → bytes ≡ n ∷ rest
byte_front bytes n rest at = let low : n < 2 ^ 8 = at.small in let same : n % 256 ≡ n = omega arith in at.front ∙ ap (λ k. k ∷ rest) same

-- a byte within bounds
pub byte_leads : (least most : ℕ) (next : ℕ → Form) (bytes : List ℕ) (n : ℕ) (rest : List ℕ) → bytes ≡ n ∷ rest → least ≤ n → n ≤ most → most < 2 ^ 8 → Leads (field w8 (between least most) next) bytes (next n) rest
byte_leads least most next bytes n rest e above below fits =
    field_leads w8 wide8 (between least most) next bytes n rest (record { at = byte_of n rest bytes (omega arith) e; kept = is_between least most n above below })

pub name_leads : (least : ℕ) (next : Form) (bytes : List ℕ) (name : Option (List ℕ)) (rest : List ℕ) → NameAt least bytes name rest → Leads (name_form least next) bytes next rest
name_leads least next bytes None rest t =
    let long = t.long in
    leads_on
    (byte_leads least 255 (λ size. run size next) bytes 0 rest t.front (omega arith) (omega arith) (omega arith))
    (run_leads 0 next rest [] rest (record { front = refl; whole = refl }))
name_leads least next bytes (Some name) rest t =
    let long = t.long in
    let short = t.allowed.1 in
    leads_on
    (byte_leads least 255 (λ size. run size next) bytes (length name) (name ++ rest) t.front long short (omega arith))
    (run_leads (length name) next (name ++ rest) name rest (record { front = refl; whole = refl }))

-- ---- names

abbrev Names : Type 0
Names = List (Option (List ℕ))

-- one element more
pub all_push : {A : Type 0} (P : A → Type 0) (xs : List A) (x : A) → AllByRecursion P xs → P x → AllByRecursion P (xs ++ x ∷ [])
all_push P [] x h p = (p, tt)
all_push P (y ∷ xs) x h p = (h.0, all_push P xs x h.1 p)

flat_push : (names : Names) (name : Option (List ℕ)) (rest : List ℕ) → flat_map name_bytes (names ++ name ∷ []) ++ rest ≡ flat_map name_bytes names ++ (name_bytes name ++ rest)
flat_push [] name rest = ap (λ l. l ++ rest) (append-nil (name_bytes name))
flat_push (n ∷ names) name rest = append_assoc (name_bytes n) (flat_map name_bytes (names ++ name ∷ [])) rest ∙ ap (λ l. name_bytes n ++ l) (flat_push names name rest) ∙ sym (append_assoc (name_bytes n) (flat_map name_bytes names) (name_bytes name ++ rest))

begins_more : (names more : Names) → IsTrue (begins_named names) → IsTrue (begins_named (names ++ more))
begins_more [] more h = absurd (cc)
begins_more (n ∷ names) more h = h

others_lead : (next : Form) (names : Names) (rest : List ℕ) → AllByRecursion IsName names → Leads (names_form 0 (length names) next) (flat_map name_bytes names ++ rest) next rest
others_lead next [] rest h = record { breaks = λ left found expected b. b; only = λ left found expected b. b }
others_lead next (n ∷ names) rest h =
    leads_on
    (name_leads 0 (names_form 0 (length names) next) (flat_map name_bytes (n ∷ names) ++ rest) n (flat_map name_bytes names ++ rest) (record {
      allowed = h.0;
      long = omega arith;
      front = append_assoc (name_bytes n) (flat_map name_bytes names) rest;
    }))
    (others_lead next names rest h.1)

some_long : (name : Option (List ℕ)) → IsName name → IsTrue (is_some name) → 1 ≤ name_length name
some_long None h s = absurd (cc)
some_long (Some name) h s = h.0

pub names_lead : (next : Form) (names : Names) (rest : List ℕ) → AllByRecursion IsName names → IsTrue (begins_named names) → Leads (names_form 1 (length names) next) (flat_map name_bytes names ++ rest) next rest
names_lead next [] rest h first = absurd (cc)
names_lead next (n ∷ names) rest h first =
    leads_on
    (name_leads 1 (names_form 0 (length names) next) (flat_map name_bytes (n ∷ names) ++ rest) n (flat_map name_bytes names ++ rest) (record {
      allowed = h.0;
      long = some_long n h.0 first;
      front = append_assoc (name_bytes n) (flat_map name_bytes names) rest;
    }))
    (others_lead next names rest h.1)

-- some of so many names were read, as far as to what is left
pub record NamesRead (count : ℕ) (bytes : List ℕ) (names : Names) (left : List ℕ) : Type 0 where
  pub todo : ℕ
  pub parts : length names + todo ≡ count
  pub allowed : AllByRecursion IsName names
  pub first : IsTrue (begins_named names)
  pub front : bytes ≡ flat_map name_bytes names ++ left
  pub leads : (next : Form) → Leads (names_form 1 count next) bytes (names_form 0 todo next) left

is_named : (name : Option (List ℕ)) → 1 ≤ name_length name → IsTrue (is_some name)
is_named None h = absurd (omega arith)
is_named (Some name) h = refl

pub names_begin : (count : ℕ) (bytes : List ℕ) (name : Option (List ℕ)) (left : List ℕ) → 1 ≤ count → NameAt 1 bytes name left → NamesRead count bytes (name ∷ []) left
names_begin zero bytes name left some at = absurd (omega arith)
names_begin (suc count) bytes name left some at = record {
  todo = count;
  parts = omega arith;
  allowed = (at.allowed, tt);
  first = is_named name at.long;
  front = at.front ∙ ap (λ l. l ++ left) (sym (append-nil (name_bytes name)));
  leads = λ next. name_leads 1 (names_form 0 count next) bytes name left at;
}

-- where some are left to be read, the next is
record NextName (count todo : ℕ) (bytes left : List ℕ) : Type 0 where
  fewer : ℕ
  is : todo ≡ suc fewer
  leads : (next : Form) → Leads (names_form 1 count next) bytes (name_form 0 (names_form 0 fewer next)) left

next_name : (count todo : ℕ) (bytes left : List ℕ) → 1 ≤ todo → ((next : Form) → Leads (names_form 1 count next) bytes (names_form 0 todo next) left) → NextName count todo bytes left
next_name count zero bytes left some leads = absurd (omega arith)
next_name count (suc fewer) bytes left some leads = record { fewer = fewer; is = refl; leads = leads }

read_next : (count : ℕ) (bytes : List ℕ) (names : Names) (left : List ℕ) → (so : NamesRead count bytes names left) → length names < count → NextName count so.todo bytes left
read_next count bytes names left so less = let parts = so.parts in next_name count so.todo bytes left (omega arith) so.leads

pub names_step : (count : ℕ) (bytes : List ℕ) (names : Names) (left : List ℕ) (name : Option (List ℕ)) (rest : List ℕ) → NamesRead count bytes names left → length names < count → NameAt 0 left name rest → NamesRead count bytes (names ++ name ∷ []) rest
names_step count bytes names left name rest so less at =
    let n = read_next count bytes names left so less in
    let parts = so.parts in
    let is = n.is in
    record {
      todo = n.fewer;
      parts = omega (arith, length-append names (name ∷ []));
      allowed = all_push IsName names name so.allowed at.allowed;
      first = begins_more names (name ∷ []) so.first;
      front = so.front ∙ ap (λ l. flat_map name_bytes names ++ l) at.front ∙ sym (flat_push names name rest);
      leads = λ next. leads_on (n.leads next) (name_leads 0 (names_form 0 n.fewer next) left name rest at);
    }

pub names_broken : (count : ℕ) (bytes : List ℕ) (names : Names) (left : List ℕ) (why : FormFault) → NamesRead count bytes names left → length names < count → ((next : Form) → IsBroken (name_form 0 next) left why)
    → (next : Form) → IsBroken (names_form 1 count next) bytes why
names_broken count bytes names left why so less broken next =
    let n = read_next count bytes names left so less in
    broken_behind why (n.leads next) (broken (names_form 0 n.fewer next))

pub first_broken : (count : ℕ) (bytes : List ℕ) (why : FormFault) → 1 ≤ count → ((next : Form) → IsBroken (name_form 1 next) bytes why) → (next : Form) → IsBroken (names_form 1 count next) bytes why
first_broken zero bytes why some broken next = absurd (omega arith)
first_broken (suc count) bytes why some broken next = broken (names_form 0 count next)

pub names_all : (count : ℕ) (bytes : List ℕ) (names : Names) (left : List ℕ) → NamesRead count bytes names left → length names ≡ count → NamesAt count bytes names left
names_all count bytes names left so all = record { counted = all; allowed = so.allowed; first = so.first; front = so.front }

-- ---- a chain

pub chain_leads : (next : ℕ → Form) (bytes : List ℕ) (chain : Chain) (rest : List ℕ) → ChainAt bytes chain rest → Leads (chain_form next) bytes (next (length chain.names)) rest
chain_leads next bytes chain rest at =
    let h = at.allowed in
    let names = flat_map name_bytes chain.names ++ rest in
    let counted = length chain.names ∷ names in
    leads_on
    (field_leads w32 wide32 (exactly MAGIC) (λ magic. field w8 (between 1 4) (λ count. names_form 1 count (next count))) bytes MAGIC counted (record {
      at = record { front = at.front; small = omega arith };
      kept = exactly_that MAGIC;
    }))
    (leads_on
    (byte_leads 1 4 (λ count. names_form 1 count (next count)) counted (length chain.names) names refl h.some h.few (omega arith))
    (names_lead (next (length chain.names)) chain.names rest h.names h.first))

pub chain_found : (bytes : List ℕ) (count : ℕ) (second third : List ℕ) (names : Names) (rest : List ℕ) → KeptAt w32 (exactly MAGIC) bytes MAGIC second → KeptAt w8 (between 1 4) second count third → NamesAt count third names rest → ChainAt bytes (record { names = names }) rest
chain_found bytes count second third names rest p q r =
    let within = bounded 1 4 count q.kept in
    let low = within.above in
    let high = within.below in
    let counted = r.counted in
    record {
      allowed = record { some = omega arith; few = omega arith; first = r.first; names = r.allowed };
      front = p.at.front ∙ ap (λ l. to_be_bytes w32 MAGIC ++ l) (byte_front second count third q.at ∙ ap₂ (λ n l. n ∷ l) (sym counted) r.front);
    }
