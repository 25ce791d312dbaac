-- Numbers as texts, and what counting up and then down comes to.
use Rattle.std.specs.Prelude.{◌≡◌, ℕ, ◌+◌, ◌^◌, ◌<◌, ◌≤◌, nat_lt, nat_le, Bool, true, false, ◌&&◌, List, length, Some, None, if◌then◌else◌, refl}
use Rattle.std.specs.List.{list_all}
use Rattle.std.specs.Option.{IfSome}
use Rattle.std.specs.Fmt.{decimal}
use Rattle.std.specs.Str.Parse.{digits_value}
use Rattle.std.proofs.Common.{rules, ap, ◌∙◌, arith}
use Rattle.std.proofs.lemmas.Bool.Decides.{nat_tests}
use Rattle.std.proofs.lemmas.Str.Parse.{IsNumeralModel, numerals_by_value}
use Rattle.std.proofs.lemmas.Fmt.{digits_decimal, digits_value-decimal, decimal_nonempty, length-decimal-le}
use Rattle.doc_model.specs.declared.key.DocKey.{DocKey}
use Rattle.doc_model.specs.declared.document.Doc.{Doc}
use Rattle.kv_request.specs.declared.request.Request.{Request}
use Rattle.kv_request.specs.declared.request.Body.TheVariants as bodies
use Rattle.doc_step.specs.declared.TheConstants.{DIGITS_LIMIT}
use Rattle.doc_step.specs.declared.Effect.TheVariants as effects
use Rattle.doc_step.specs.Expiry.{Setting, there, is_expired}
use Rattle.doc_step.specs.Counter.{is_digit, is_number, number_of, moved}
use Rattle.doc_step.specs.Replies.{with_value}
use Rattle.doc_step.specs.Step.{document_step}
use Rattle.doc_step.specs.Laws.{effect_of}

-- ---- numbers as texts

-- the texts of digits are those that decimal text is made of
digits : IsNumeralModel (λ ds. list_all is_digit ds ≡ true) (digits_value 10)
digits = numerals_by_value _ (search rules)

-- four tests that pass
all_four : (a b c d : Bool) → a ≡ true → b ≡ true → c ≡ true → d ≡ true → (a && b && c && d) ≡ true
all_four a b c d p q r s = cc

-- the decimal text of a number below 2^64 has at most 20 digits
pub decimal_short : (n : ℕ) → n < 2 ^ 64 → length (decimal n) ≤ DIGITS_LIMIT
decimal_short n h = omega (arith, length-decimal-le 20 n (omega arith) (omega arith) h)

is_number-decimal : (n : ℕ) → n < 2 ^ 64 → is_number (decimal n) ≡ true
is_number-decimal n h = let some = decimal_nonempty n h in
    let short = decimal_short n h in
    let value = digits_value-decimal digits n h in
    all_four (nat_le 1 (length (decimal n))) (nat_le (length (decimal n)) DIGITS_LIMIT) (list_all is_digit (decimal n)) (nat_lt (digits_value 10 (decimal n)) (2 ^ 64))
    (grind (arith, nat_tests))
    (grind (arith, nat_tests))
    (digits_decimal digits n h)
    (grind (arith, nat_tests))

number_when : (b : Bool) (m n : ℕ) → b ≡ true → m ≡ n → (if b then Some m else None) ≡ Some n
number_when true m n p e = ap Some e
number_when false m n p e = absurd (cc)

-- a number below 2^64 is what its decimal text is read as
pub number_of-decimal : (n : ℕ) → n < 2 ^ 64 → number_of (decimal n) ≡ Some n
number_of-decimal n h = number_when (is_number (decimal n)) (digits_value 10 (decimal n)) n (is_number-decimal n h) (digits_value-decimal digits n h)

last_of_four : (a b c d : Bool) → (a && b && c && d) ≡ true → d ≡ true
last_of_four true true true d e = e
last_of_four a b c d e = grind arith

within_when : (b : Bool) (n : ℕ) → (b ≡ true → n < 2 ^ 64) → IfSome (if b then Some n else None) (λ m. m < 2 ^ 64)
within_when true n h = h refl
within_when false n h = tt

-- the number that a text is lies below 2^64
pub number_small : (text : List ℕ) → IfSome (number_of text) (λ n. n < 2 ^ 64)
number_small text = within_when (is_number text) (digits_value 10 text) (λ e.
    let last = last_of_four (nat_le 1 (length text)) (nat_le (length text) DIGITS_LIMIT) (list_all is_digit text) (nat_lt (digits_value 10 text) (2 ^ 64)) e in
    grind (arith, nat_tests))

-- a number that is counted from one below 2^64 lies there too
pub moved_small : (up : Bool) (number delta : ℕ) → number < 2 ^ 64 → moved up number delta < 2 ^ 64
moved_small true number delta h = omega arith
moved_small false number delta h = omega arith

-- ---- counting

-- a request that counts a number that is there
record IsCounted (s : Setting) (request : Request) (up : Bool) (delta number : ℕ) (doc : Doc) : Type 0 where
  key : DocKey
  initial : ℕ
  expiry : ℕ
  body : request.body ≡ bodies.Count key up delta initial expiry
  cas : request.cas ≡ 0
  here : is_expired doc.expiry s.now ≡ false
  is : number_of doc.value ≡ Some number

counts : (s : Setting) (request : Request) (up : Bool) (delta number : ℕ) (doc : Doc) → IsCounted s request up delta number doc
    → effect_of (document_step s request (Some doc)) ≡ effects.Put (with_value s doc (decimal (moved up number delta)))
counts s request up delta number doc h = rw (h.here, h.cas, h.body, h.is) refl

not_expired : (b : Bool) (doc : Doc) → (if b then None else Some doc) ≡ Some doc → b ≡ false
not_expired true doc e = absurd (cc)
not_expired false doc e = refl

raised_is : (number delta : ℕ) → number + delta < 2 ^ 64 → moved true number delta ≡ number + delta
raised_is number delta h = omega arith

-- counting up and down by as much comes to the number that it was
pub up_and_down : (s t : Setting) (up down : Request) (key : DocKey) (delta initial other expiry later number : ℕ) (doc : Doc)
    → up.body ≡ bodies.Count key true delta initial expiry → up.cas ≡ 0
    → down.body ≡ bodies.Count key false delta other later → down.cas ≡ 0
    → there s.now (Some doc) ≡ Some doc → there t.now (Some doc) ≡ Some doc
    → number_of doc.value ≡ Some number → number + delta < 2 ^ 64
    → (raised lowered : Doc) × (effect_of (document_step s up (Some doc)) ≡ effects.Put raised)
    × (effect_of (document_step t down (Some raised)) ≡ effects.Put lowered)
    × (lowered.value ≡ decimal number) × (number_of lowered.value ≡ Some number)
up_and_down s t up down key delta initial other expiry later number doc up_is up_cas down_is down_cas first second is h =
    let raised = with_value s doc (decimal (moved true number delta)) in
    let sum : moved true number delta ≡ number + delta = raised_is number delta h in
    let back : moved false (moved true number delta) delta ≡ number = omega (arith, sum) in
    let lowered = with_value t raised (decimal (moved false (moved true number delta) delta)) in
    let value : lowered.value ≡ decimal number = ap decimal back in (
      raised,
      lowered,
      counts s up true delta number doc (record { key = key; initial = initial; expiry = expiry; body = up_is; cas = up_cas; here = not_expired (is_expired doc.expiry s.now) doc first; is = is }),
      counts t down false delta (moved true number delta) raised (record { key = key; initial = other; expiry = later; body = down_is; cas = down_cas; here = not_expired (is_expired doc.expiry t.now) doc second; is = number_of-decimal (moved true number delta) (omega (arith, sum)) }),
      value,
      ap number_of value ∙ number_of-decimal number (omega arith),
    )
