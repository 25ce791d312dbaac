-- Layouts: bytes break one at one place, and then they don't keep it, whatever follows.
use Rattle.std.specs.Prelude.{◌≡◌, ◌⊎◌, ℕ, ◌+◌, ◌≤◌, Bool, true, false, List, ◌++◌, length, Ok, Err, Result, IfErr}
use Rattle.std.specs.Result.{IsErrAnd}
use Rattle.std.proofs.Common.{inl, inr, sym, ap, ◌∙◌, subst, append_assoc, arith}
use Rattle.std.proofs.lemmas.List.{length-append}
use Rattle.vb_log.specs.Faults.{ContentBreaksAt, PartsAreNone}
use Rattle.vb_log.specs.Contents.{content_layout}
use Rattle.vb_log.proofs.Entries.{one_break}
use Rattle.vb_log.proofs.ContentBytes.{one_break as one_content_break}
use Rattle.vb_log.proofs.Layouts.{no_fit as no_content_fit}
use Rattle.repl_wire.specs.declared.heads.HeadFault.{HeadFault}
use Rattle.repl_wire.specs.declared.heads.HeadFault.TheVariants as head_faults
use Rattle.repl_wire.specs.declared.numbers.BodyFault.{BodyFault}
use Rattle.repl_wire.specs.declared.numbers.BodyFault.TheVariants as body_faults
use Rattle.repl_wire.specs.Layout.{Size, Layout, anything, an_entry, a_content, number, digits, NumberAt, RightAt, WrongAt, NoContentWith, Fits, Breaks}
use Rattle.repl_wire.specs.Reading.{HeadFails, BodyFails}
use Rattle.repl_wire.proofs.OneNumber.{number_one}

-- ---- what a `?` hands on

pub handed : {T F : Type 0} (r : Result T F) (fault : F) (P : F → Type 0) → IsErrAnd r (λ y. y ≡ fault) → P fault → IfErr r P
handed (Ok x) fault P h p = absurd h
handed (Err y) fault P h p = subst P (sym h) p

-- ---- behind a right number

pub head_behind : (size : Size) (test : ℕ → Bool) (next : ℕ → Layout) (bytes : List ℕ) (n : ℕ) (rest : List ℕ) (fault : HeadFault) → RightAt size test bytes n rest → HeadFails (next n) rest fault → HeadFails (number size test next) bytes fault
head_behind size test next bytes n rest head_faults.Ended at f = inr (n, rest, at, f)
head_behind size test next bytes n rest (head_faults.Broken left) at f = inr (n, rest, at, f)

pub body_behind : (size : Size) (test : ℕ → Bool) (next : ℕ → Layout) (bytes : List ℕ) (n : ℕ) (rest : List ℕ) (fault : BodyFault) → RightAt size test bytes n rest → BodyFails (next n) rest fault → BodyFails (number size test next) bytes fault
body_behind size test next bytes n rest (body_faults.Broken left) at f = inr (n, rest, at, f)
body_behind size test next bytes n rest body_faults.NoMemory at f = tt

-- ---- no bytes both keep and break a layout

wrong_right : (size : Size) (test : ℕ → Bool) (bytes : List ℕ) (left n : ℕ) (behind : List ℕ) → WrongAt size test bytes left → RightAt size test bytes n behind → ⊥
wrong_right size test bytes left n behind w r =
    let same = number_one size bytes w.n n w.behind behind w.number r.number in
    false_true (sym w.fails ∙ ap test same.same ∙ r.passes)
  where
    false_true : false ≡ true → ⊥
    false_true e = absurd cc

pub no_fit : (l : Layout) (bytes : List ℕ) (left : ℕ) → Breaks l bytes left → Fits l bytes → ⊥
no_fit anything bytes left b f = b
no_fit an_entry bytes left b f = b.none.1 f.0 f.1
no_fit a_content bytes left b f = b.none.1 f.0 f.1
no_fit (number size test next) bytes left (inl b) f = wrong_right size test bytes left f.0 f.1 b f.2
no_fit (number size test next) bytes left (inr b) f =
    let same = number_one size bytes b.0 f.0 b.1 f.1 b.2.number f.2.number in
    no_fit (next f.0) f.1 left (subst (λ (p : ℕ × List ℕ). Breaks (next p.0) p.1 left) (λ i. (same.same i, same.rest i)) b.3) f.3

-- ---- one place

content_place : (bytes : List ℕ) (left also : ℕ) → NoContentWith bytes left → NoContentWith bytes also → left ≡ also
content_place bytes left also a b = go a.none.0 b.none.0
  where
    go : (ContentBreaksAt bytes a.place ⊎ PartsAreNone bytes a.place) → (ContentBreaksAt bytes b.place ⊎ PartsAreNone bytes b.place) → left ≡ also
    go (inl x) (inl y) = let e = one_content_break bytes a.place b.place x y in let p = a.parts in let q = b.parts in omega arith
    go (inl x) (inr y) = absurd (no_content_fit content_layout bytes x.left x.breaks y.fits)
    go (inr x) (inl y) = absurd (no_content_fit content_layout bytes y.left y.breaks x.fits)
    go (inr x) (inr y) = let e = x.zero in let d = y.zero in let p = a.parts in let q = b.parts in omega arith

pub one_place : (l : Layout) (bytes : List ℕ) (left also : ℕ) → Breaks l bytes left → Breaks l bytes also → left ≡ also
one_place anything bytes left also a b = absurd a
one_place an_entry bytes left also a b =
    let e = one_break bytes a.place b.place a.none.0 b.none.0 in
    let p = a.parts in
    let q = b.parts in
    omega arith
one_place a_content bytes left also a b = content_place bytes left also a b
one_place (number size test next) bytes left also (inl a) (inl b) = a.all ∙ sym b.all
one_place (number size test next) bytes left also (inl a) (inr b) = absurd (wrong_right size test bytes left b.0 b.1 a b.2)
one_place (number size test next) bytes left also (inr a) (inl b) = absurd (wrong_right size test bytes also a.0 a.1 b a.2)
one_place (number size test next) bytes left also (inr a) (inr b) =
    let same = number_one size bytes a.0 b.0 a.1 b.1 a.2.number b.2.number in
    one_place (next b.0) b.1 left also (subst (λ (p : ℕ × List ℕ). Breaks (next p.0) p.1 left) (λ i. (same.same i, same.rest i)) a.3) b.3

-- ---- what is left where bytes break a layout is within them

pub left_within : (l : Layout) (bytes : List ℕ) (left : ℕ) → Breaks l bytes left → left ≤ length bytes
left_within anything bytes left b = absurd b
left_within an_entry bytes left b = let p = b.parts in omega arith
left_within a_content bytes left b = let p = b.parts in omega arith
left_within (number size test next) bytes left (inl b) = let e = b.all in omega arith
left_within (number size test next) bytes left (inr b) =
    let less = left_within (next b.0) b.1 left b.3 in
    let at = b.2.number in
    omega (arith, ap length at.front, length-append (digits size b.0) b.1)

-- ---- layouts of numbers alone, behind which anything may stand

abbrev pub IsOpen : Layout → Type 0
IsOpen anything = Unit {0}
IsOpen an_entry = ⊥
IsOpen a_content = ⊥
IsOpen (number size test next) = (n : ℕ) → IsOpen (next n)

number_more : (size : Size) (bytes more : List ℕ) (n : ℕ) (behind : List ℕ) → NumberAt size bytes n behind → NumberAt size (bytes ++ more) n (behind ++ more)
number_more size bytes more n behind at = record { front = ap (λ l. l ++ more) at.front ∙ append_assoc (digits size n) behind more; small = at.small }

-- bytes that break one break it whatever follows them
pub breaks_more : (l : Layout) (bytes more : List ℕ) (left : ℕ) → IsOpen l → Breaks l bytes left → Breaks l (bytes ++ more) (left + length more)
breaks_more anything bytes more left o b = absurd b
breaks_more an_entry bytes more left o b = absurd o
breaks_more a_content bytes more left o b = absurd o
breaks_more (number size test next) bytes more left o (inl b) = inl (record {
  n = b.n;
  behind = b.behind ++ more;
  number = number_more size bytes more b.n b.behind b.number;
  fails = b.fails;
  all = (let e = b.all in omega (arith, length-append bytes more));
})
breaks_more (number size test next) bytes more left o (inr b) =
    inr (b.0, b.1 ++ more, record { number = number_more size bytes more b.0 b.1 b.2.number; passes = b.2.passes }, breaks_more (next b.0) b.1 more left (o b.0) b.3)
