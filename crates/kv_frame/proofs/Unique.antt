-- No spelling begins another, and of bytes one thing is to be told.
use Rattle.std.proofs.Common.{◌≡◌, ◌≢◌, ℕ, ◌+◌, ◌<◌, ◌≤◌, List, [], ◌∷◌, ◌++◌, length, take, drop, refl, sym, ap, subst, ◌∙◌, append_assoc, append-nil, arith, inl, inr, length-append, take-append-drop}
use Rattle.std.specs.List.{AllByRecursion}
use Rattle.std.proofs.lemmas.List.{length-take, take_at, drop_at, append_cancel_left}
use Rattle.kv_edge.specs.Fields.{IsBytes}
use Rattle.kv_edge.proofs.Fields.{IsBytes-take, IsBytes-drop}
use Rattle.kv_frame.specs.declared.frame.TheConstants.{HEADER_LENGTH, BODY_LIMIT}
use Rattle.kv_frame.specs.declared.frame.Side.{Side}
use Rattle.kv_frame.specs.declared.frame.Magic.{Magic}
use Rattle.kv_frame.specs.declared.frame.Magic.TheVariants as magics
use Rattle.kv_frame.specs.declared.frame.FrameExtra.{FrameExtra}
use Rattle.kv_frame.specs.declared.frame.Frame.{Frame}
use Rattle.kv_frame.specs.declared.judging.Fault.{Fault}
use Rattle.kv_frame.specs.declared.judging.Fault.TheVariants as faults
use Rattle.kv_frame.specs.declared.judging.Judged.{Judged}
use Rattle.kv_frame.specs.declared.judging.Judged.TheVariants as judged
use Rattle.kv_frame.specs.declared.decoding.Step.{Step}
use Rattle.kv_frame.specs.declared.decoding.Step.TheVariants as steps
use Rattle.kv_frame.specs.Grammar.{extra, section, ExtraFits, magic_byte, body_length, header_of, header_front, header_back, body, spelling, Fits, IsFrame}
use Rattle.kv_frame.specs.Judging.{stated_framing, stated_key, stated_sum, stated_body, IsBad, Lacks, BeginsWith, GoesWrongAt, Judges, Decodes}
use Rattle.kv_frame.specs.Reading.{HeaderFits}
use Rattle.kv_frame.proofs.HeaderLaws.{States, header_states, behind_header, length_front, length_back}
use Rattle.kv_frame.proofs.ExtraLaws.{one_extra, one_section, extra_long}
use Rattle.kv_frame.proofs.FrameLaws.{framing_fitted}

-- fronts of one length of one list are one
same_front : (p q x y : List ℕ) → length p ≡ length q → p ++ x ≡ q ++ y → (p ≡ q) × (x ≡ y)
same_front p q x y len e = (
  sym (take_at p x (length p) refl) ∙ ap (take (length p)) e ∙ take_at q y (length p) (sym len),
  sym (drop_at p x (length p) refl) ∙ ap (drop (length p)) e ∙ drop_at q y (length p) (sym len),
)

-- each magic has a byte of its own
pub one_magic : (m n : Magic) → magic_byte m ≡ magic_byte n → m ≡ n
one_magic magics.Request magics.Request e = refl
one_magic magics.Request magics.FlexRequest e = absurd (omega arith)
one_magic magics.Request magics.Reply e = absurd (omega arith)
one_magic magics.Request magics.FlexReply e = absurd (omega arith)
one_magic magics.FlexRequest magics.Request e = absurd (omega arith)
one_magic magics.FlexRequest magics.FlexRequest e = refl
one_magic magics.FlexRequest magics.Reply e = absurd (omega arith)
one_magic magics.FlexRequest magics.FlexReply e = absurd (omega arith)
one_magic magics.Reply magics.Request e = absurd (omega arith)
one_magic magics.Reply magics.FlexRequest e = absurd (omega arith)
one_magic magics.Reply magics.Reply e = refl
one_magic magics.Reply magics.FlexReply e = absurd (omega arith)
one_magic magics.FlexReply magics.Request e = absurd (omega arith)
one_magic magics.FlexReply magics.FlexRequest e = absurd (omega arith)
one_magic magics.FlexReply magics.Reply e = absurd (omega arith)
one_magic magics.FlexReply magics.FlexReply e = refl

-- ---- frames

-- what the parts of a frame that fits state of bytes that begin with it
header_fits : (f : Frame) → Fits f → HeaderFits (header_of f)
header_fits f fits =
    record {
      opcode = fits.opcode;
      datatype = fits.datatype;
      word = fits.word;
      opaque = fits.opaque;
      cas = fits.cas;
      framing = (framing_fitted f.magic f.framing fits.framing).1;
      extras = fits.extras;
      key = fits.key;
      body = omega (arith, fits.body);
    }

spelling_parts : (f : Frame) (x : List ℕ) → spelling f ++ x ≡ header_front (header_of f) ++ (header_back (header_of f) ++ (body f ++ x))
unfolding spelling
spelling_parts f x =
    append_assoc (header_front (header_of f)) (header_back (header_of f) ++ body f) x
    ∙ ap (λ (l : List ℕ). header_front (header_of f) ++ l) (append_assoc (header_back (header_of f)) (body f) x)

pub frame_states : (bytes : List ℕ) (f : Frame) (x : List ℕ) → Fits f → bytes ≡ spelling f ++ x → States bytes (header_of f)
frame_states bytes f x fits e = header_states bytes (header_of f) (body f ++ x) (header_fits f fits) (e ∙ spelling_parts f x)

pub behind_frame : (bytes : List ℕ) (f : Frame) (x : List ℕ) → bytes ≡ spelling f ++ x → drop HEADER_LENGTH bytes ≡ body f ++ x
behind_frame bytes f x e = ap (drop HEADER_LENGTH) (e ∙ spelling_parts f x) ∙ behind_header (header_of f) (body f ++ x)

length-body : (f : Frame) → length (body f) ≡ body_length f
unfolding body
length-body f = omega (arith, length-append (section f.framing) (f.extras ++ (f.key ++ f.value)), length-append f.extras (f.key ++ f.value), length-append f.key f.value)

pub length-spelling : (f : Frame) → length (spelling f) ≡ HEADER_LENGTH + body_length f
unfolding spelling
length-spelling f =
    let h = header_of f in
    omega (arith, length-append (header_front h) (header_back h ++ body f), length-append (header_back h) (body f), length_front h, length_back h, length-body f)

-- bytes state one number at each place
record SameNumbers (f g : Frame) : Type 0 where
  magic : f.magic ≡ g.magic
  opcode : f.opcode ≡ g.opcode
  datatype : f.datatype ≡ g.datatype
  word : f.word ≡ g.word
  opaque : f.opaque ≡ g.opaque
  cas : f.cas ≡ g.cas
  framing : length (section f.framing) ≡ length (section g.framing)
  extras : length f.extras ≡ length g.extras
  key : length f.key ≡ length g.key
  body : body_length f ≡ body_length g

same_numbers : (bytes : List ℕ) (f g : Frame) → States bytes (header_of f) → States bytes (header_of g) → SameNumbers f g
same_numbers bytes f g s t =
    let m = one_magic f.magic g.magic (sym s.first ∙ t.first) in
    record {
      magic = m;
      opcode = sym s.opcode ∙ t.opcode;
      datatype = sym s.datatype ∙ t.datatype;
      word = sym s.word ∙ t.word;
      opaque = sym s.opaque ∙ t.opaque;
      cas = sym s.cas ∙ t.cas;
      framing = sym s.framing ∙ ap (λ (m : Magic). stated_framing m bytes) m ∙ t.framing;
      extras = sym s.extras ∙ t.extras;
      key = sym s.key ∙ ap (λ (m : Magic). stated_key m bytes) m ∙ t.key;
      body = sym s.body ∙ t.body;
    }

same_frame : (g : Frame) (magic : Magic) (opcode datatype word opaque cas : ℕ) (framing : List FrameExtra) (extras key value : List ℕ)
    → magic ≡ g.magic → opcode ≡ g.opcode → datatype ≡ g.datatype → word ≡ g.word → opaque ≡ g.opaque → cas ≡ g.cas → framing ≡ g.framing → extras ≡ g.extras → key ≡ g.key → value ≡ g.value
    → record {
      magic = magic;
      opcode = opcode;
      datatype = datatype;
      word = word;
      opaque = opaque;
      cas = cas;
      framing = framing;
      extras = extras;
      key = key;
      value = value;
    } ≡ g
same_frame g magic opcode datatype word opaque cas framing extras key value e0 e1 e2 e3 e4 e5 e6 e7 e8 e9 = rw (e0, e1, e2, e3, e4, e5, e6, e7, e8, e9) refl

same_parts : (f g : Frame) → Fits f → Fits g → SameNumbers f g → body f ≡ body g → f ≡ g
unfolding body
same_parts f g p q n e =
    let a = same_front (section f.framing) (section g.framing) (f.extras ++ (f.key ++ f.value)) (g.extras ++ (g.key ++ g.value)) n.framing e in
    let b = same_front f.extras g.extras (f.key ++ f.value) (g.key ++ g.value) n.extras a.1 in
    let c = same_front f.key g.key f.value g.value n.key b.1 in
    let framing = one_section f.framing g.framing (framing_fitted f.magic f.framing p.framing).0 (framing_fitted g.magic g.framing q.framing).0 a.0 in
    same_frame g f.magic f.opcode f.datatype f.word f.opaque f.cas f.framing f.extras f.key f.value n.magic n.opcode n.datatype n.word n.opaque n.cas framing b.0 c.0 c.1

-- no spelling begins another
pub one_spelling : (f g : Frame) (x y : List ℕ) → Fits f → Fits g → spelling f ++ x ≡ spelling g ++ y → f ≡ g
one_spelling f g x y p q e =
    let s = frame_states (spelling f ++ x) f x p refl in
    let t = frame_states (spelling f ++ x) g y q e in
    let n = same_numbers (spelling f ++ x) f g s t in
    let bodies : body f ++ x ≡ body g ++ y = sym (behind_frame (spelling f ++ x) f x refl) ∙ behind_frame (spelling f ++ x) g y e in
    same_parts f g p q n (same_front (body f) (body g) x y (length-body f ∙ n.body ∙ sym (length-body g)) bodies).0

pub one_frame : (side : Side) (f g : Frame) (a b x y : List ℕ) → IsFrame side f a → IsFrame side g b → a ++ x ≡ b ++ y → (f ≡ g) × (a ≡ b)
one_frame side f g a b x y p q e =
    let same = one_spelling f g x y p.fits q.fits (ap (λ (l : List ℕ). l ++ x) (sym p.spelled) ∙ e ∙ ap (λ (l : List ℕ). l ++ y) q.spelled) in
    (same, p.spelled ∙ ap spelling same ∙ sym q.spelled)

-- ---- sections that go wrong

-- no framing extra is at the front
abbrev BeginsNone : List ℕ → Type 0
BeginsNone rest = (e : FrameExtra) (more : List ℕ) → ExtraFits e → rest ≢ extra e ++ more

nothing_begins : BeginsNone []
nothing_begins e more fits same = omega (arith, ap (λ (l : List ℕ). length l) same, length-append (extra e) more, extra_long e)

-- the framing extras up to a place where none is at the front are the same
one_stop : (es fs : List FrameExtra) (x y : List ℕ) → AllByRecursion ExtraFits es → AllByRecursion ExtraFits fs → BeginsNone x → BeginsNone y → section es ++ x ≡ section fs ++ y → es ≡ fs
one_stop [] [] x y p q nx ny e = refl
one_stop [] (f ∷ fs) x y p q nx ny e = absurd (nx f (section fs ++ y) q.0 (e ∙ append_assoc (extra f) (section fs) y))
one_stop (f ∷ es) [] x y p q nx ny e = absurd (ny f (section es ++ x) p.0 (sym e ∙ append_assoc (extra f) (section es) x))
one_stop (e ∷ es) (f ∷ fs) x y p q nx ny same =
    let heads = one_extra e f (section es ++ x) (section fs ++ y) p.0 q.0 (sym (append_assoc (extra e) (section es) x) ∙ same ∙ append_assoc (extra f) (section fs) y) in
    let tails = one_stop es fs x y p.1 q.1 nx ny heads.1 in
    cc

one_wrong : (bytes : List ℕ) (m n : ℕ) → GoesWrongAt bytes m → GoesWrongAt bytes n → m ≡ n
one_wrong bytes m n (es, x, p, e, m-is, some, nx) (fs, y, q, d, n-is, more, ny) =
    m-is ∙ ap (λ (l : List FrameExtra). length (section l)) (one_stop es fs x y p q nx ny (sym e ∙ d)) ∙ sym n-is

-- a section of framing extras doesn't go wrong
section_right : (es : List FrameExtra) (place : ℕ) → AllByRecursion ExtraFits es → GoesWrongAt (section es) place → ⊥
section_right es place all (fs, y, q, e, place-is, some, none) =
    let same = one_stop es fs [] y all q nothing_begins none (append-nil (section es) ∙ e) in
    some (sym (append_cancel_left (section fs) [] y (append-nil (section fs) ∙ ap section (sym same) ∙ e)))

-- ---- bytes that begin with a frame begin with no other, lack nothing and have no fault

-- the framing section of a frame that bytes begin with
section_cut : (bytes : List ℕ) (f : Frame) (rest : List ℕ) → bytes ≡ spelling f ++ rest → take (length (section f.framing)) (drop HEADER_LENGTH bytes) ≡ section f.framing
unfolding body
section_cut bytes f rest e =
    let parts : List ℕ = f.extras ++ (f.key ++ f.value) in
    let behind = behind_frame bytes f rest e ∙ append_assoc (section f.framing) parts rest in
    ap (take (length (section f.framing))) behind ∙ take_at (section f.framing) (parts ++ rest) (length (section f.framing)) refl

pub not_lacking : (side : Side) (bytes : List ℕ) (f : Frame) (rest : List ℕ) (n : ℕ) → IsFrame side f (spelling f) → bytes ≡ spelling f ++ rest → Lacks side bytes n → ⊥
not_lacking side bytes f rest n is e (inl few) =
    omega (arith, few.0, few.1, ap (λ (l : List ℕ). length l) e, length-append (spelling f) rest, length-spelling f)
not_lacking side bytes f rest n is e (inr (m, good, some, sum)) =
    let s = frame_states bytes f rest is.fits e in
    omega (arith, some, sum, s.body, ap (λ (l : List ℕ). length l) e, length-append (spelling f) rest, length-spelling f)

not_bad : (side : Side) (bytes : List ℕ) (f : Frame) (rest : List ℕ) (place : ℕ) (fault : Fault) → IsFrame side f (spelling f) → bytes ≡ spelling f ++ rest → IsBad side bytes place fault → ⊥
not_bad side bytes f rest place faults.Magic is e (long, p, none) =
    let s = frame_states bytes f rest is.fits e in
    none f.magic (record { of_side = is.of_side; first = s.first })
not_bad side bytes f rest place faults.Lengths is e (long, p, m, has, lt) =
    let s = frame_states bytes f rest is.fits e in
    let same = one_magic m f.magic (sym has.first ∙ s.first) in
    let less = subst (λ (m : Magic). stated_body bytes < stated_sum m bytes) same lt in
    omega (arith, less, s.framing, s.key, s.extras, s.body)
not_bad side bytes f rest place faults.TooBig is e (long, p, m, has, lt) =
    let s = frame_states bytes f rest is.fits e in
    omega (arith, lt, s.body, is.fits.body)
not_bad side bytes f rest place faults.Extra is e (m, good, whole, offset, place-is, wrong) =
    let s = frame_states bytes f rest is.fits e in
    let same = one_magic m f.magic (sym good.stated.first ∙ s.first) in
    let stated : stated_framing m bytes ≡ length (section f.framing) = ap (λ (m : Magic). stated_framing m bytes) same ∙ s.framing in
    let cut : take (stated_framing m bytes) (drop HEADER_LENGTH bytes) ≡ section f.framing = ap (λ (n : ℕ). take n (drop HEADER_LENGTH bytes)) stated ∙ section_cut bytes f rest e in
    section_right f.framing offset (framing_fitted f.magic f.framing is.fits.framing).0 (subst (λ (l : List ℕ). GoesWrongAt l offset) cut wrong)

whole_only : (side : Side) (bytes : List ℕ) (f g : Frame) (rest : List ℕ) (used : ℕ) → IsFrame side f (spelling f) → bytes ≡ spelling f ++ rest → BeginsWith side bytes g used → (g ≡ f) × (used ≡ length (spelling f))
whole_only side bytes f g rest used is e (within, begins) =
    let cut : spelling g ++ drop used bytes ≡ spelling f ++ rest = ap (λ (l : List ℕ). l ++ drop used bytes) (sym begins.spelled) ∙ take-append-drop used bytes ∙ e in
    let same = one_spelling g f (drop used bytes) rest begins.fits is.fits cut in
    let size : length (take used bytes) ≡ length (spelling f) = ap (λ (l : List ℕ). length l) (begins.spelled ∙ ap spelling same) in
    (same, omega (arith, within, size, length-take used bytes))

pub decodes_only : (side : Side) (bytes : List ℕ) (step : Step) (f : Frame) (rest : List ℕ) → IsFrame side f (spelling f) → bytes ≡ spelling f ++ rest → Decodes side bytes step → step ≡ steps.Whole f (length (spelling f))
decodes_only side bytes (steps.Whole g used) f rest is e begins = let same = whole_only side bytes f g rest used is e begins in cc
decodes_only side bytes (steps.More n) f rest is e lacks = absurd (not_lacking side bytes f rest n is e lacks)
decodes_only side bytes (steps.Bad place fault) f rest is e bad = absurd (not_bad side bytes f rest place fault is e bad)

pub judges_only : (side : Side) (bytes : List ℕ) (answer : Judged) (f : Frame) (rest : List ℕ) → IsFrame side f (spelling f) → bytes ≡ spelling f ++ rest → Judges side bytes answer → answer ≡ judged.Whole (length (spelling f))
judges_only side bytes (judged.Whole used) f rest is e (g, begins) = let same = whole_only side bytes f g rest used is e begins in cc
judges_only side bytes (judged.More n) f rest is e lacks = absurd (not_lacking side bytes f rest n is e lacks)
judges_only side bytes (judged.Bad place fault) f rest is e bad = absurd (not_bad side bytes f rest place fault is e bad)

-- ---- one thing is told

pub begun : (side : Side) (bytes : List ℕ) (f : Frame) (used : ℕ) → BeginsWith side bytes f used → IsFrame side f (spelling f) × (bytes ≡ spelling f ++ drop used bytes)
begun side bytes f used (within, begins) =
    (record { of_side = begins.of_side; fits = begins.fits; spelled = refl }, sym (take-append-drop used bytes) ∙ ap (λ (l : List ℕ). l ++ drop used bytes) begins.spelled)

one_lack : (side : Side) (bytes : List ℕ) (m n : ℕ) → Lacks side bytes m → Lacks side bytes n → m ≡ n
one_lack side bytes m n (inl a) (inl b) = omega (arith, a.1, b.1)
one_lack side bytes m n (inl a) (inr (magic, good, some, sum)) = absurd (omega (arith, a.0, a.1, good.whole))
one_lack side bytes m n (inr (magic, good, some, sum)) (inl b) = absurd (omega (arith, b.0, b.1, good.whole))
one_lack side bytes m n (inr (magic, good, some, sum)) (inr (other, fine, more, total)) = omega (arith, sum, total)

-- a header without a fault, before its body is whole, has none
pub lacking_not_bad : (side : Side) (bytes : List ℕ) (n place : ℕ) (fault : Fault) → Lacks side bytes n → IsBad side bytes place fault → ⊥
lacking_not_bad side bytes n place faults.Magic (inl few) (long, p, none) = omega (arith, few.0, few.1, long)
lacking_not_bad side bytes n place faults.Lengths (inl few) (long, p, m, has, lt) = omega (arith, few.0, few.1, long)
lacking_not_bad side bytes n place faults.TooBig (inl few) (long, p, m, has, lt) = omega (arith, few.0, few.1, long)
lacking_not_bad side bytes n place faults.Extra (inl few) (m, good, whole, offset, place-is, wrong) = omega (arith, few.0, few.1, good.whole)
lacking_not_bad side bytes n place faults.Magic (inr (magic, good, some, sum)) (long, p, none) = none magic good.stated
lacking_not_bad side bytes n place faults.Lengths (inr (magic, good, some, sum)) (long, p, m, has, lt) =
    let same = one_magic m magic (sym has.first ∙ good.stated.first) in
    let less = subst (λ (m : Magic). stated_body bytes < stated_sum m bytes) same lt in
    omega (arith, less, good.sum)
lacking_not_bad side bytes n place faults.TooBig (inr (magic, good, some, sum)) (long, p, m, has, lt) = omega (arith, lt, good.small)
lacking_not_bad side bytes n place faults.Extra (inr (magic, good, some, sum)) (m, fine, whole, offset, place-is, wrong) = omega (arith, some, sum, whole)

-- what bytes state of a header is far below the limit of a body
sum_small : (magic : Magic) (bytes : List ℕ) → IsBytes bytes → stated_sum magic bytes ≤ BODY_LIMIT
sum_small magics.Request bytes fits = omega (arith, fits 4, IsBytes-take 2 (drop 2 bytes) (IsBytes-drop 2 bytes fits) 0, IsBytes-take 2 (drop 2 bytes) (IsBytes-drop 2 bytes fits) 1)
sum_small magics.FlexRequest bytes fits = omega (arith, fits 2, fits 3, fits 4)
sum_small magics.Reply bytes fits = omega (arith, fits 4, IsBytes-take 2 (drop 2 bytes) (IsBytes-drop 2 bytes fits) 0, IsBytes-take 2 (drop 2 bytes) (IsBytes-drop 2 bytes fits) 1)
sum_small magics.FlexReply bytes fits = omega (arith, fits 2, fits 3, fits 4)

-- one fault is told, at one place
one_fault : (side : Side) (bytes : List ℕ) (p q : ℕ) (f g : Fault) → IsBytes bytes → IsBad side bytes p f → IsBad side bytes q g → (p ≡ q) × (f ≡ g)
one_fault side bytes p q faults.Magic faults.Magic fits (long, a, none) (also, b, nor) = (a ∙ sym b, refl)
one_fault side bytes p q faults.Magic faults.Lengths fits (long, a, none) (also, b, m, has, lt) = absurd (none m has)
one_fault side bytes p q faults.Magic faults.TooBig fits (long, a, none) (also, b, m, has, lt) = absurd (none m has)
one_fault side bytes p q faults.Magic faults.Extra fits (long, a, none) (m, good, whole, k, p-is, wrong) = absurd (none m good.stated)
one_fault side bytes p q faults.Lengths faults.Magic fits (also, b, m, has, lt) (long, a, none) = absurd (none m has)
one_fault side bytes p q faults.TooBig faults.Magic fits (also, b, m, has, lt) (long, a, none) = absurd (none m has)
one_fault side bytes p q faults.Extra faults.Magic fits (m, good, whole, k, p-is, wrong) (long, a, none) = absurd (none m good.stated)
one_fault side bytes p q faults.Lengths faults.Lengths fits (long, a, m, has, lt) (also, b, n, had, more) = (a ∙ sym b, refl)
one_fault side bytes p q faults.TooBig faults.TooBig fits (long, a, m, has, lt) (also, b, n, had, more) = (a ∙ sym b, refl)
one_fault side bytes p q faults.Lengths faults.TooBig fits (long, a, m, has, lt) (also, b, n, had, more) = absurd (omega (arith, lt, more, sum_small m bytes fits))
one_fault side bytes p q faults.TooBig faults.Lengths fits (also, b, n, had, more) (long, a, m, has, lt) = absurd (omega (arith, lt, more, sum_small m bytes fits))
one_fault side bytes p q faults.Lengths faults.Extra fits (long, a, m, has, lt) (n, good, whole, k, p-is, wrong) =
    let same = one_magic m n (sym has.first ∙ good.stated.first) in
    let less = subst (λ (m : Magic). stated_body bytes < stated_sum m bytes) same lt in
    absurd (omega (arith, less, good.sum))
one_fault side bytes p q faults.Extra faults.Lengths fits (n, good, whole, k, p-is, wrong) (long, a, m, has, lt) =
    let same = one_magic m n (sym has.first ∙ good.stated.first) in
    let less = subst (λ (m : Magic). stated_body bytes < stated_sum m bytes) same lt in
    absurd (omega (arith, less, good.sum))
one_fault side bytes p q faults.TooBig faults.Extra fits (long, a, m, has, lt) (n, good, whole, k, p-is, wrong) = absurd (omega (arith, lt, good.small))
one_fault side bytes p q faults.Extra faults.TooBig fits (n, good, whole, k, p-is, wrong) (long, a, m, has, lt) = absurd (omega (arith, lt, good.small))
one_fault side bytes p q faults.Extra faults.Extra fits (m, good, whole, k, p-is, wrong) (n, fine, also, l, q-is, worse) =
    let same = one_magic m n (sym good.stated.first ∙ fine.stated.first) in
    let moved = subst (λ (m : Magic). GoesWrongAt (take (stated_framing m bytes) (drop HEADER_LENGTH bytes)) k) same wrong in
    (p-is ∙ ap (λ (n : ℕ). HEADER_LENGTH + n) (one_wrong (take (stated_framing n bytes) (drop HEADER_LENGTH bytes)) k l moved worse) ∙ sym q-is, refl)

-- bytes that begin with a frame are told so
whole_is : (side : Side) (bytes : List ℕ) (f : Frame) (used : ℕ) (answer : Judged) → BeginsWith side bytes f used → Judges side bytes answer → answer ≡ judged.Whole used
whole_is side bytes f used answer begins told =
    let b = begun side bytes f used begins in
    judges_only side bytes answer f (drop used bytes) b.0 b.1 told ∙ sym (judges_only side bytes (judged.Whole used) f (drop used bytes) b.0 b.1 (f, begins))

pub one_judgement : (side : Side) (bytes : List ℕ) (x y : Judged) → IsBytes bytes → Judges side bytes x → Judges side bytes y → x ≡ y
one_judgement side bytes (judged.Whole m) y fits (f, begins) told = sym (whole_is side bytes f m y begins told)
one_judgement side bytes x (judged.Whole n) fits told (f, begins) = whole_is side bytes f n x begins told
one_judgement side bytes (judged.More m) (judged.More n) fits lacks also = ap judged.More (one_lack side bytes m n lacks also)
one_judgement side bytes (judged.More m) (judged.Bad place fault) fits lacks bad = absurd (lacking_not_bad side bytes m place fault lacks bad)
one_judgement side bytes (judged.Bad place fault) (judged.More n) fits bad lacks = absurd (lacking_not_bad side bytes n place fault lacks bad)
one_judgement side bytes (judged.Bad p f) (judged.Bad q g) fits bad worse = let same = one_fault side bytes p q f g fits bad worse in cc
