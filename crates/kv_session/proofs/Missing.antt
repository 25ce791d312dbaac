-- Bytes that lack some lack fewer where more are added.
use Rattle.std.proofs.Common.{◌≡◌, ℕ, ◌+◌, ◌-◌, ◌<◌, ◌≤◌, List, ◌++◌, length, take, drop, sym, ap, subst, ◌∙◌, arith, inl, inr, append_assoc, length-append}
use Rattle.std.proofs.lemmas.List.{length-take, length-drop}
use Rattle.std.proofs.lemmas.Bool.{cases_lt}
use Rattle.std.proofs.Math.Seq.{take-add}
use Rattle.kv_frame.specs.declared.frame.Frame.{Frame}
use Rattle.kv_frame.specs.declared.frame.Side.TheVariants.{Requests}
use Rattle.kv_frame.specs.declared.frame.TheConstants.{HEADER_LENGTH, BODY_LIMIT}
use Rattle.kv_frame.specs.Judging.{stated_body, BeginsWith, Lacks}
use Rattle.kv_frame.proofs.Unique.{begun, not_lacking, lacking_not_bad, frame_states, length-spelling}
use Rattle.kv_frame.proofs.Growing.{same_body, lacks_fewer}
use Rattle.std.proofs.lemmas.Bool.Decides.{nat_tests}
use Rattle.kv_frame.specs.Grammar.{spelling, body_length}
use Rattle.kv_session.specs.Filling.{Filled, room_for}

-- bytes that lack some begin with no whole frame
lacking_not_whole : (bytes : List ℕ) (n : ℕ) (f : Frame) (used : ℕ) → Lacks Requests bytes n → BeginsWith Requests bytes f used → ⊥
lacking_not_whole bytes n f used lacks begins =
    let b = begun Requests bytes f used begins in
    not_lacking Requests bytes f (drop used bytes) n b.0 b.1 lacks

-- bytes that lack some are not filled
pub lacking_not_filled : (bytes : List ℕ) (n : ℕ) → Lacks Requests bytes n → Filled bytes → ⊥
lacking_not_filled bytes n lacks (inl (f, used, begins)) = lacking_not_whole bytes n f used lacks begins
lacking_not_filled bytes n lacks (inr (place, fault, bad)) = lacking_not_bad Requests bytes n place fault lacks bad

-- some bytes are missing
pub lacks_some : (bytes : List ℕ) (n : ℕ) → Lacks Requests bytes n → 0 < n
lacks_some bytes n (inl few) = few.0
lacks_some bytes n (inr (magic, good, some, sum)) = some

-- ---- a step over a piece

-- what is held with a further part of the piece
further : (old piece : List ℕ) (taken count : ℕ) → (old ++ take taken piece) ++ take count (drop taken piece) ≡ old ++ take (taken + count) piece
further old piece taken count = append_assoc old (take taken piece) (take count (drop taken piece)) ∙ ap (λ (l : List ℕ). old ++ l) (sym (take-add taken count piece))

-- before the last of the missing bytes nothing is filled
pub none_filled : (old piece held : List ℕ) (taken missing count : ℕ) → held ≡ old ++ take taken piece → Lacks Requests held missing → count ≤ missing → taken + count ≤ length piece
    → ((k : ℕ) → k < taken → Filled (old ++ take k piece) → ⊥) → (k : ℕ) → k < taken + count → Filled (old ++ take k piece) → ⊥
none_filled old piece held taken missing count held-is lacks few room before k lt filled =
    elim (cases_lt k taken) [
      | inl less ↦ before k less filled
      | inr le ↦
          let m : ℕ = k - taken in
          let more : List ℕ = take m (drop taken piece) in
          let size : length more ≡ m = omega (arith, length-take m (drop taken piece), length-drop taken piece) in
          let place : taken + m ≡ k = omega arith in
          let e : held ++ more ≡ old ++ take k piece = ap (λ (l : List ℕ). l ++ more) held-is ∙ further old piece taken m ∙ ap (λ (n : ℕ). old ++ take n piece) place in
          lacking_not_filled (held ++ more) (missing - length more) (lacks_fewer Requests held more missing lacks (omega arith)) (subst Filled (sym e) filled)
    ]

-- what is held after a step
pub held_further : (old piece held new : List ℕ) (taken count : ℕ) → held ≡ old ++ take taken piece → new ≡ held ++ take count (drop taken piece) → new ≡ old ++ take (taken + count) piece
held_further old piece held new taken count held-is new-is = new-is ∙ ap (λ (l : List ℕ). l ++ take count (drop taken piece)) held-is ∙ further old piece taken count

-- ---- what is held at most

-- bytes that lack some hold no more than there is room for, also with as many as are missing
pub lacks_room : (held more : List ℕ) (n : ℕ) → Lacks Requests held n → length more ≤ n → length (held ++ more) ≤ room_for (held ++ more)
lacks_room held more n (inl few) le = grind (arith, nat_tests, few.1, length-append held more)
lacks_room held more n (inr (magic, good, some, sum)) le =
    let body = same_body held more good.whole in
    let small = good.small in
    let long : HEADER_LENGTH ≤ length (held ++ more) = omega (arith, good.whole, length-append held more) in
    let within : length (held ++ more) ≤ HEADER_LENGTH + stated_body (held ++ more) = omega (arith, sum, body, length-append held more) in
    let limit : stated_body (held ++ more) ≤ BODY_LIMIT = omega (arith, body, small) in
    grind (arith, nat_tests)

-- a frame that begins what is held is all that is held
pub whole_is_all : (held : List ℕ) (f : Frame) (used : ℕ) → length held ≤ room_for held → BeginsWith Requests held f used → used ≡ length held
whole_is_all held f used bounded begins =
    let b = begun Requests held f used begins in
    let states = frame_states held f (drop used held) b.0.fits b.1 in
    let size = length-spelling f in
    let taken : length (take used held) ≡ length (spelling f) = ap (λ (l : List ℕ). length l) begins.1.spelled in
    let within : used ≤ length held = begins.0 in
    let total : used ≡ HEADER_LENGTH + body_length f = omega (arith, taken, size, length-take used held) in
    let stated : stated_body held ≡ body_length f = states.body in
    let limit : body_length f ≤ BODY_LIMIT = b.0.fits.body in
    grind (arith, nat_tests)
