-- A framing extra that is read is spelled so, and one that is spelled is read.
use Rattle.std.proofs.Common.{◌≡◌, ◌≢◌, ℕ, ◌+◌, ◌-◌, ◌*◌, ◌/◌, ◌%◌, ◌^◌, ◌<◌, ◌≤◌, min, true, false, ltb, List, [], ◌∷◌, ◌++◌, length, Option, Some, None, refl, sym, ap, subst, ◌∙◌, append_assoc, append-nil, arith, inl, inr, length-append}
use Rattle.std.specs.List.{AllByRecursion}
use Rattle.std.proofs.lemmas.Bool.{cases_lt, lt-ltb, le-ltb}
use Rattle.std.proofs.lemmas.List.Concat.{flat_map-append}
use Rattle.std.proofs.lemmas.List.{nil_from_length}
use Rattle.std.proofs.lemmas.Option.{none-some}
use Rattle.kv_edge.specs.Fields.{◌>>=◌, IsBytes, byte_at, bytes_at}
use Rattle.kv_edge.proofs.Fields.{Takes, Takes-then, bind_some, some_is, byte_takes, bytes_take, bytes_again}
use Rattle.kv_frame.specs.declared.frame.FrameExtra.{FrameExtra}
use Rattle.kv_frame.specs.Grammar.{nibble, further, extra, section, ExtraFits}
use Rattle.kv_frame.specs.Judging.{GoesWrongAt}
use Rattle.kv_frame.specs.Reading.{number_from, extra_at}

-- a number that a nibble and its further byte show
pub record Shows (k : ℕ) (bytes : List ℕ) (n : ℕ) (rest : List ℕ) : Type 0 where
  pub taken : Takes bytes (further n) rest
  pub shown : nibble n ≡ k
  pub fits : n < 15 + 2 ^ 8

small_shows : (k : ℕ) (bytes : List ℕ) → k < 15 → IsBytes bytes → Shows k bytes k bytes
small_shows k bytes lt fits =
    let test : ltb k 15 ≡ true = lt-ltb k 15 lt in
    record { taken = record { parts = rw test refl; rest_fits = fits }; shown = omega arith; fits = omega arith }

large_shows : (k b : ℕ) (bytes rest : List ℕ) → k ≡ 15 → Takes bytes (b ∷ []) rest → b < 2 ^ 8 → Shows k bytes (15 + b) rest
large_shows k b bytes rest e taken lt =
    let test : ltb (15 + b) 15 ≡ false = le-ltb (15 + b) 15 (omega arith) in
    let less : 15 + b - 15 ≡ b = omega arith in
    record { taken = record { parts = rw (test, less) taken.parts; rest_fits = taken.rest_fits }; shown = omega arith; fits = omega arith }

number_shows : (k : ℕ) (bytes : List ℕ) (n : ℕ) (rest : List ℕ) → k < 16 → IsBytes bytes → number_from k bytes ≡ Some (n, rest) → Shows k bytes n rest
number_shows k bytes n rest lt fits e =
    elim (cases_lt k 15) [
      | inl small ↦
          let test : ltb k 15 ≡ true = lt-ltb k 15 small in
          let same = some_is (k, bytes) (n, rest) (rw test at e) in
          subst (λ (p : ℕ × List ℕ). Shows k bytes p.0 p.1) same (small_shows k bytes small fits)
      | inr large ↦
          let test : ltb k 15 ≡ false = le-ltb k 15 large in
          let a = bind_some (byte_at bytes) (λ further. Some (15 + further.0, further.1)) (n, rest) (rw test at e) in
          let same = some_is (15 + a.0.0, a.0.1) (n, rest) a.2 in
          let t = byte_takes bytes a.0.0 a.0.1 fits a.1 in
          subst (λ (p : ℕ × List ℕ). Shows k bytes p.0 p.1) same (large_shows k a.0.0 bytes a.0.1 (omega arith) t.0 t.1)
    ]

number_again : (n : ℕ) (rest : List ℕ) → n < 15 + 2 ^ 8 → number_from (nibble n) (further n ++ rest) ≡ Some (n, rest)
number_again n rest lt =
    elim (cases_lt n 15) [
      | inl small ↦
          let test : ltb n 15 ≡ true = lt-ltb n 15 small in
          let shown : min n 15 ≡ n = omega arith in
          rw (shown, test) refl
      | inr large ↦
          let test : ltb n 15 ≡ false = le-ltb n 15 large in
          let shown : min n 15 ≡ 15 = omega arith in
          let more : 15 + (n - 15) ≡ n = omega arith in
          rw (shown, test) (ap (λ (m : ℕ). Some (m, rest)) more)
    ]

extra_made : (h id len : ℕ) (bytes r1 r2 r3 body rest : List ℕ) → h < 2 ^ 8 → Takes bytes (h ∷ []) r1 → Shows (h / 16) r1 id r2 → Shows (h % 16) r2 len r3 → Takes r3 body rest → length body ≡ len
    → Takes bytes (extra (record { id = id; body = body })) rest × ExtraFits (record { id = id; body = body })
unfolding extra
extra_made h id len bytes r1 r2 r3 body rest lt head i l b e =
    let first : 16 * nibble id + nibble (length body) ≡ h = omega (arith, i.shown, l.shown) in
    let behind = Takes-then r1 (further id) r2 (further len ++ body) rest i.taken (Takes-then r2 (further len) r3 body rest l.taken b) in
    let whole = Takes-then bytes (h ∷ []) r1 (further id ++ (further len ++ body)) rest head behind in
    let sized = subst (λ (n : ℕ). Takes bytes (h ∷ (further id ++ (further n ++ body))) rest) (sym e) whole in
    (subst (λ (n : ℕ). Takes bytes (n ∷ (further id ++ (further (length body) ++ body))) rest) (sym first) sized, record { id = i.fits; body = omega (arith, l.fits) })

abbrev after_length : ℕ → ℕ × List ℕ → Option (FrameExtra × List ℕ)
after_length id len = bytes_at len.0 len.1 >>= λ body. Some (record { id = id; body = body.0 }, body.1)

abbrev after_id : ℕ → ℕ × List ℕ → Option (FrameExtra × List ℕ)
after_id k id = number_from k id.1 >>= after_length id.0

abbrev after_head : ℕ × List ℕ → Option (FrameExtra × List ℕ)
after_head head = number_from (head.0 / 16) head.1 >>= after_id (head.0 % 16)

pub extra_takes : (bytes : List ℕ) (e : FrameExtra) (rest : List ℕ) → IsBytes bytes → extra_at bytes ≡ Some (e, rest) → Takes bytes (extra e) rest × ExtraFits e
unfolding extra_at
extra_takes bytes e rest fits read =
    let a = bind_some (byte_at bytes) after_head (e, rest) read in
    let b = bind_some (number_from (a.0.0 / 16) a.0.1) (after_id (a.0.0 % 16)) (e, rest) a.2 in
    let c = bind_some (number_from (a.0.0 % 16) b.0.1) (after_length b.0.0) (e, rest) b.2 in
    let d = bind_some (bytes_at c.0.0 c.0.1) (λ body. Some (record { id = b.0.0; body = body.0 }, body.1)) (e, rest) c.2 in
    let made : FrameExtra × List ℕ = (record { id = b.0.0; body = d.0.0 }, d.0.1) in
    let same = some_is made (e, rest) d.2 in
    let head = byte_takes bytes a.0.0 a.0.1 fits a.1 in
    let i = number_shows (a.0.0 / 16) a.0.1 b.0.0 b.0.1 (omega (arith, head.1)) head.0.rest_fits b.1 in
    let l = number_shows (a.0.0 % 16) b.0.1 c.0.0 c.0.1 (omega arith) i.taken.rest_fits c.1 in
    let t = bytes_take c.0.0 c.0.1 d.0.0 d.0.1 l.taken.rest_fits d.1 in
    subst (λ (p : FrameExtra × List ℕ). Takes bytes (extra p.0) p.1 × ExtraFits p.0) {x = made} same
    (extra_made a.0.0 b.0.0 c.0.0 bytes a.0.1 b.0.1 c.0.1 d.0.0 d.0.1 head.1 head.0 i l t.0 t.1)

pub extra_again : (e : FrameExtra) (rest : List ℕ) → ExtraFits e → extra_at (extra e ++ rest) ≡ Some (e, rest)
unfolding extra_at extra
extra_again e rest fits =
    let head = 16 * nibble e.id + nibble (length e.body) in
    let high : head / 16 ≡ nibble e.id = omega arith in
    let low : head % 16 ≡ nibble (length e.body) = omega arith in
    let inner : (further (length e.body) ++ e.body) ++ rest ≡ further (length e.body) ++ (e.body ++ rest) = append_assoc (further (length e.body)) e.body rest in
    let regrouped : (further e.id ++ (further (length e.body) ++ e.body)) ++ rest ≡ further e.id ++ (further (length e.body) ++ (e.body ++ rest)) =
    append_assoc (further e.id) (further (length e.body) ++ e.body) rest ∙ ap (λ (l : List ℕ). further e.id ++ l) inner in
    let body_read : after_length e.id (length e.body, e.body ++ rest) ≡ Some (e, rest) = rw (bytes_again e.body rest) refl in
    let length_read : after_id (nibble (length e.body)) (e.id, further (length e.body) ++ (e.body ++ rest)) ≡ Some (e, rest) =
    ap (λ r. r >>= after_length e.id) (number_again (length e.body) (e.body ++ rest) fits.body) ∙ body_read in
    let id_read : after_head (head, further e.id ++ (further (length e.body) ++ (e.body ++ rest))) ≡ Some (e, rest) =
    ap (λ (k : ℕ). number_from k (further e.id ++ (further (length e.body) ++ (e.body ++ rest))) >>= after_id (head % 16)) high
    ∙ ap (λ (k : ℕ). number_from (nibble e.id) (further e.id ++ (further (length e.body) ++ (e.body ++ rest))) >>= after_id k) low
    ∙ ap (λ r. r >>= after_id (nibble (length e.body))) (number_again e.id (further (length e.body) ++ (e.body ++ rest)) fits.id)
    ∙ length_read in
    ap (λ (l : List ℕ). after_head (head, l)) regrouped ∙ id_read

-- no framing extra begins another
pub one_extra : (e f : FrameExtra) (x y : List ℕ) → ExtraFits e → ExtraFits f → extra e ++ x ≡ extra f ++ y → (e ≡ f) × (x ≡ y)
one_extra e f x y p q same =
    let both = some_is (e, x) (f, y) (sym (extra_again e x p) ∙ ap extra_at same ∙ extra_again f y q) in
    (ap (λ (r : FrameExtra × List ℕ). r.0) both, ap (λ (r : FrameExtra × List ℕ). r.1) both)

-- where no framing extra is read, none is at the front
pub extra_none : (bytes : List ℕ) → extra_at bytes ≡ None → (e : FrameExtra) (more : List ℕ) → ExtraFits e → bytes ≢ extra e ++ more
extra_none bytes none e more fits same = absurd (none-some _ (sym none ∙ ap extra_at same ∙ extra_again e more fits))

-- a framing extra has at least one byte
pub extra_long : (e : FrameExtra) → 0 < length (extra e)
unfolding extra
extra_long e = omega arith

further_short : (n : ℕ) → length (further n) ≤ 1
further_short n =
    elim (cases_lt n 15) [
      | inl small ↦ let test : ltb n 15 ≡ true = lt-ltb n 15 small in rw test (omega arith)
      | inr large ↦ let test : ltb n 15 ≡ false = le-ltb n 15 large in rw test (omega arith)
    ]

-- the longest framing extra has three bytes before its own
pub extra_short : (e : FrameExtra) → ExtraFits e → length (extra e) ≤ 273
unfolding extra
extra_short e fits =
    omega (arith, fits.body, further_short e.id, further_short (length e.body), length-append (further e.id) (further (length e.body) ++ e.body), length-append (further (length e.body)) e.body)

-- ---- sections

-- The bytes are these framing extras, and then the rest.
pub record Sections (bytes : List ℕ) (es : List FrameExtra) (rest : List ℕ) : Type 0 where
  pub fit : AllByRecursion ExtraFits es
  pub parts : bytes ≡ section es ++ rest
  pub rest_fits : IsBytes rest

pub section_start : (bytes : List ℕ) → IsBytes bytes → Sections bytes [] bytes
section_start bytes fits = record { fit = tt; parts = refl; rest_fits = fits }

fit_more : (es : List FrameExtra) (e : FrameExtra) → AllByRecursion ExtraFits es → ExtraFits e → AllByRecursion ExtraFits (es ++ e ∷ [])
fit_more [] e all here = (here, tt)
fit_more (x ∷ es) e all here = (all.0, fit_more es e all.1 here)

-- a framing extra more
pub section_more : (bytes rest after : List ℕ) (es : List FrameExtra) (e : FrameExtra) → Sections bytes es rest → extra_at rest ≡ Some (e, after) → Sections bytes (es ++ e ∷ []) after
section_more bytes rest after es e so_far read =
    let t = extra_takes rest e after so_far.rest_fits read in
    let longer : section (es ++ e ∷ []) ≡ section es ++ extra e = flat_map-append extra es (e ∷ []) ∙ ap (λ (l : List ℕ). section es ++ l) (append-nil (extra e)) in
    record {
      fit = fit_more es e so_far.fit t.1;
      parts = so_far.parts ∙ ap (λ (l : List ℕ). section es ++ l) t.0.parts ∙ sym (append_assoc (section es) (extra e) after) ∙ ap (λ (l : List ℕ). l ++ after) (sym longer);
      rest_fits = t.0.rest_fits;
    }

-- where a framing extra is read, less is left
pub section_shorter : (rest after : List ℕ) (e : FrameExtra) → IsBytes rest → extra_at rest ≡ Some (e, after) → length after < length rest
section_shorter rest after e fits read =
    let t = extra_takes rest e after fits read in
    omega (arith, ap (λ (l : List ℕ). length l) t.0.parts, length-append (extra e) after, extra_long e)

-- at the end they are all
pub section_all : (bytes rest : List ℕ) (es : List FrameExtra) → Sections bytes es rest → length rest ≡ 0 → AllByRecursion ExtraFits es × (bytes ≡ section es)
section_all bytes rest es so_far none = (so_far.fit, so_far.parts ∙ ap (λ (l : List ℕ). section es ++ l) (nil_from_length rest none) ∙ append-nil (section es))

-- a rest that is no framing extra goes wrong there
pub section_wrong : (bytes rest : List ℕ) (es : List FrameExtra) → Sections bytes es rest → 0 < length rest → extra_at rest ≡ None → GoesWrongAt bytes (length bytes - length rest)
section_wrong bytes rest es so_far some none =
    (es, rest, so_far.fit, so_far.parts, omega (arith, ap (λ (l : List ℕ). length l) so_far.parts, length-append (section es) rest), λ nil. omega (arith, some, ap (λ (l : List ℕ). length l) nil), extra_none rest none)

section_cons : (e : FrameExtra) (es : List FrameExtra) (x : List ℕ) → section (e ∷ es) ++ x ≡ extra e ++ (section es ++ x)
section_cons e es x = append_assoc (extra e) (section es) x

-- two lists of framing extras with one spelling are one
pub one_section : (es fs : List FrameExtra) → AllByRecursion ExtraFits es → AllByRecursion ExtraFits fs → section es ≡ section fs → es ≡ fs
one_section [] [] p q same = refl
one_section [] (f ∷ fs) p q same = absurd (omega (arith, ap (λ (l : List ℕ). length l) same, length-append (extra f) (section fs), extra_long f))
one_section (e ∷ es) [] p q same = absurd (omega (arith, ap (λ (l : List ℕ). length l) same, length-append (extra e) (section es), extra_long e))
one_section (e ∷ es) (f ∷ fs) p q same =
    let heads = one_extra e f (section es) (section fs) p.0 q.0 same in
    let tails = one_section es fs p.1 q.1 heads.1 in
    cc
