-- A frame that is read is spelled so, and no spelling begins another.
use Rattle.std.proofs.Common.{◌≡◌, ℕ, ◌+◌, ◌-◌, ◌^◌, ◌<◌, ◌≤◌, List, [], ◌∷◌, ◌++◌, length, take, drop, refl, sym, ap, subst, ◌∙◌, arith, inr, length-append}
use Rattle.std.specs.List.{AllByRecursion}
use Rattle.std.proofs.lemmas.List.{length-take, length-drop, take-append-drop, take-take}
use Rattle.std.proofs.Math.Seq.{take-append-add}
use Rattle.kv_frame.specs.declared.frame.TheConstants.{HEADER_LENGTH}
use Rattle.kv_frame.specs.declared.frame.Side.{Side}
use Rattle.kv_frame.specs.declared.frame.Magic.{Magic}
use Rattle.kv_frame.specs.declared.frame.Magic.TheVariants as magics
use Rattle.kv_frame.specs.declared.frame.FrameExtra.{FrameExtra}
use Rattle.kv_frame.specs.declared.frame.Frame.{Frame}
use Rattle.kv_frame.specs.declared.header.Header.{Header}
use Rattle.kv_frame.specs.declared.judging.Fault.TheVariants as faults
use Rattle.kv_frame.specs.Grammar.{extra, section, ExtraFits, FramingFits, key_bound, body_length, header_of, header_front, header_back, body, spelling}
use Rattle.kv_frame.specs.Judging.{IsGoodHeader, IsBad, Lacks, BeginsWith, GoesWrongAt, stated_framing}
use Rattle.kv_frame.specs.Reading.{framing_bound, HasHeader}
use Rattle.kv_frame.proofs.HeaderLaws.{States, header_states, length_front, length_back}
use Rattle.kv_frame.proofs.ExtraLaws.{extra_long}

same_header : (h : Header) (framing extras key body : ℕ) → framing ≡ h.framing → extras ≡ h.extras → key ≡ h.key → body ≡ h.body
    → record {
      magic = h.magic;
      opcode = h.opcode;
      datatype = h.datatype;
      word = h.word;
      opaque = h.opaque;
      cas = h.cas;
      framing = framing;
      extras = extras;
      key = key;
      body = body;
    } ≡ h
same_header h framing extras key body a b c d = rw (a, b, c, d) refl

-- the frame of a header and of parts
abbrev pub frame_from : Header → List FrameExtra → List ℕ → List ℕ → List ℕ → Frame
frame_from h framing extras key value =
    record {
      magic = h.magic;
      opcode = h.opcode;
      datatype = h.datatype;
      word = h.word;
      opaque = h.opaque;
      cas = h.cas;
      framing = framing;
      extras = extras;
      key = key;
      value = value;
    }

-- bytes that are cut by a header's lengths are the body of a frame with this header
pub body_cut : (h : Header) (bytes : List ℕ) (es : List FrameExtra) (extras key value : List ℕ)
    → h.framing + (h.extras + h.key) ≤ h.body → length bytes ≡ h.body
    → take h.framing bytes ≡ section es
    → extras ≡ take h.extras (drop h.framing bytes)
    → key ≡ take h.key (drop h.extras (drop h.framing bytes))
    → value ≡ drop h.key (drop h.extras (drop h.framing bytes))
    → (header_of (frame_from h es extras key value) ≡ h) × (bytes ≡ body (frame_from h es extras key value))
unfolding body
body_cut h bytes es extras key value sum whole es-is extras-is key-is value-is =
    let r1 = drop h.framing bytes in
    let r2 = drop h.extras r1 in
    let n1 : length r1 ≡ h.body - h.framing = omega (arith, length-drop h.framing bytes) in
    let n2 : length r2 ≡ h.body - h.framing - h.extras = omega (arith, length-drop h.extras r1) in
    let l0 : length (section es) ≡ h.framing = omega (arith, ap (λ (l : List ℕ). length l) es-is, length-take h.framing bytes) in
    let l1 : length extras ≡ h.extras = omega (arith, ap (λ (l : List ℕ). length l) extras-is, length-take h.extras r1) in
    let l2 : length key ≡ h.key = omega (arith, ap (λ (l : List ℕ). length l) key-is, length-take h.key r2) in
    let l3 : length value ≡ h.body - h.framing - h.extras - h.key = omega (arith, ap (λ (l : List ℕ). length l) value-is, length-drop h.key r2) in
    let parts : take h.framing bytes ++ (take h.extras r1 ++ (take h.key r2 ++ drop h.key r2)) ≡ bytes =
    ap (λ (l : List ℕ). take h.framing bytes ++ (take h.extras r1 ++ l)) (take-append-drop h.key r2)
    ∙ ap (λ (l : List ℕ). take h.framing bytes ++ l) (take-append-drop h.extras r1)
    ∙ take-append-drop h.framing bytes in (
      same_header h (length (section es)) (length extras) (length key) (length (section es) + (length extras + (length key + length value))) l0 l1 l2 (omega arith),
      sym parts ∙ rw (es-is, ← extras-is, ← key-is, ← value-is) refl,
    )

-- ---- what a header without a fault tells

pub header_whole : (side : Side) (bytes : List ℕ) (h : Header) → HasHeader side bytes h → States bytes h
header_whole side bytes h has = header_states bytes h (drop HEADER_LENGTH bytes) has.fits has.spelled

pub good_header : (side : Side) (bytes : List ℕ) (h : Header) → HasHeader side bytes h → IsGoodHeader side bytes h.magic
good_header side bytes h has =
    let s = header_whole side bytes h has in
    record {
      whole = s.whole;
      stated = record { of_side = has.of_side; first = s.first };
      sum = omega (arith, s.framing, s.key, s.extras, s.body, has.sum);
      small = omega (arith, s.body, has.small);
    }

pub body_missing : (side : Side) (bytes : List ℕ) (h : Header) → HasHeader side bytes h → length (drop HEADER_LENGTH bytes) < h.body → Lacks side bytes (h.body - length (drop HEADER_LENGTH bytes))
body_missing side bytes h has few =
    let s = header_whole side bytes h has in
    inr (h.magic, good_header side bytes h has, omega arith, omega (arith, s.whole, s.body, length-drop HEADER_LENGTH bytes))

-- where a section goes wrong is in it
pub wrong_within : (bytes : List ℕ) (place : ℕ) → GoesWrongAt bytes place → place ≤ length bytes
wrong_within bytes place (es, rest, fit, parts, place-is, some, none) = omega (arith, ap (λ (l : List ℕ). length l) parts, length-append (section es) rest, place-is)

pub body_wrong : (side : Side) (bytes : List ℕ) (h : Header) (place : ℕ) → HasHeader side bytes h → h.body ≤ length (drop HEADER_LENGTH bytes)
    → GoesWrongAt (take h.framing (drop HEADER_LENGTH bytes)) place → IsBad side bytes (HEADER_LENGTH + place) faults.Extra
body_wrong side bytes h place has whole wrong =
    let s = header_whole side bytes h has in
    let cut : take h.framing (drop HEADER_LENGTH bytes) ≡ take (stated_framing h.magic bytes) (drop HEADER_LENGTH bytes) = ap (λ (n : ℕ). take n (drop HEADER_LENGTH bytes)) (sym s.framing) in
    (h.magic, good_header side bytes h has, omega (arith, s.whole, s.body, length-drop HEADER_LENGTH bytes), place, refl, subst (λ (l : List ℕ). GoesWrongAt l place) cut wrong)

-- a framing section is at the front of the body
pub section_within : (h : Header) (rest : List ℕ) → h.framing + (h.extras + h.key) ≤ h.body → take h.framing (take h.body rest) ≡ take h.framing rest
section_within h rest sum = let within : h.framing ≤ h.body = omega (arith, sum) in take-take h.framing h.body rest within

framing_fits : (magic : Magic) (es : List FrameExtra) → AllByRecursion ExtraFits es → length (section es) < framing_bound magic → FramingFits magic es
framing_fits magics.Request [] all lt = refl
framing_fits magics.Request (e ∷ es) all lt = absurd (omega (arith, extra_long e, length-append (extra e) (section es), lt))
framing_fits magics.FlexRequest es all lt = (all, lt)
framing_fits magics.Reply [] all lt = refl
framing_fits magics.Reply (e ∷ es) all lt = absurd (omega (arith, extra_long e, length-append (extra e) (section es), lt))
framing_fits magics.FlexReply es all lt = (all, lt)

pub framing_fitted : (magic : Magic) (es : List FrameExtra) → FramingFits magic es → AllByRecursion ExtraFits es × (length (section es) < framing_bound magic)
framing_fitted magics.Request es fits = subst (λ (es : List FrameExtra). AllByRecursion ExtraFits es × (length (section es) < 1)) (sym fits) (tt, omega arith)
framing_fitted magics.FlexRequest es fits = fits
framing_fitted magics.Reply es fits = subst (λ (es : List FrameExtra). AllByRecursion ExtraFits es × (length (section es) < 1)) (sym fits) (tt, omega arith)
framing_fitted magics.FlexReply es fits = fits

take_behind : (n : ℕ) (front back rest : List ℕ) → length front ≡ 8 → length back ≡ 16 → take (HEADER_LENGTH + n) (front ++ (back ++ rest)) ≡ front ++ (back ++ take n rest)
take_behind n front back rest f b =
    let sum : HEADER_LENGTH + n ≡ length front + (length back + n) = omega arith in
    ap (λ (k : ℕ). take k (front ++ (back ++ rest))) sum ∙ take-append-add front (back ++ rest) (length back + n) ∙ ap (λ (l : List ℕ). front ++ l) (take-append-add back rest n)

frame_begins : (side : Side) (bytes : List ℕ) (f : Frame) → HasHeader side bytes (header_of f) → AllByRecursion ExtraFits f.framing
    → body_length f ≤ length (drop HEADER_LENGTH bytes) → take (body_length f) (drop HEADER_LENGTH bytes) ≡ body f → BeginsWith side bytes f (HEADER_LENGTH + body_length f)
unfolding spelling
frame_begins side bytes f has all whole cut =
    let h = header_of f in
    let s = header_whole side bytes h has in
    let front = header_front h in
    let back = header_back h in
    let behind = take_behind (body_length f) front back (drop HEADER_LENGTH bytes) (length_front h) (length_back h) in (
      omega (arith, s.whole, length-drop HEADER_LENGTH bytes),
      record {
        of_side = has.of_side;
        fits = record {
          opcode = has.fits.opcode;
          datatype = has.fits.datatype;
          word = has.fits.word;
          opaque = has.fits.opaque;
          cas = has.fits.cas;
          framing = framing_fits f.magic f.framing all has.fits.framing;
          extras = has.fits.extras;
          key = has.fits.key;
          body = has.small;
        };
        spelled = ap (take (HEADER_LENGTH + body_length f)) has.spelled ∙ behind ∙ ap (λ (l : List ℕ). front ++ (back ++ l)) cut;
      },
    )

-- bytes with a header and a whole body begin with the frame of both
pub frame_whole : (side : Side) (bytes : List ℕ) (h : Header) (f : Frame) → HasHeader side bytes h → h.body ≤ length (drop HEADER_LENGTH bytes)
    → AllByRecursion ExtraFits f.framing → header_of f ≡ h → take h.body (drop HEADER_LENGTH bytes) ≡ body f → BeginsWith side bytes f (HEADER_LENGTH + h.body)
frame_whole side bytes h f has whole all same cut =
    subst (λ (h : Header). HasHeader side bytes h → h.body ≤ length (drop HEADER_LENGTH bytes) → take h.body (drop HEADER_LENGTH bytes) ≡ body f → BeginsWith side bytes f (HEADER_LENGTH + h.body))
    same (λ has whole cut. frame_begins side bytes f has all whole cut) has whole cut

-- bytes with a header, a whole body and a framing section without a fault begin with a frame
pub section_whole : (side : Side) (bytes : List ℕ) (h : Header) (es : List FrameExtra) → HasHeader side bytes h → h.body ≤ length (drop HEADER_LENGTH bytes)
    → AllByRecursion ExtraFits es → take h.framing (drop HEADER_LENGTH bytes) ≡ section es → (f : Frame) × BeginsWith side bytes f (HEADER_LENGTH + h.body)
section_whole side bytes h es has whole all section-is =
    let cut = take h.body (drop HEADER_LENGTH bytes) in
    let r1 = drop h.framing cut in
    let r2 = drop h.extras r1 in
    let size : length cut ≡ h.body = omega (arith, whole, length-take h.body (drop HEADER_LENGTH bytes)) in
    let made = body_cut h cut es (take h.extras r1) (take h.key r2) (drop h.key r2) has.sum size (section_within h (drop HEADER_LENGTH bytes) has.sum ∙ section-is) refl refl refl in (
      frame_from h es (take h.extras r1) (take h.key r2) (drop h.key r2),
      frame_whole side bytes h (frame_from h es (take h.extras r1) (take h.key r2) (drop h.key r2)) has whole all made.0 made.1,
    )

-- a key's length stands in two bytes at most
pub key_short : (magic : Magic) → key_bound magic ≤ 2 ^ 16
key_short magics.Request = omega arith
key_short magics.FlexRequest = omega arith
key_short magics.Reply = omega arith
key_short magics.FlexReply = omega arith
