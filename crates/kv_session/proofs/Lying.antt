-- A frame that lies whole in a piece, where nothing is held.
use Rattle.std.proofs.Common.{◌≡◌, ℕ, ◌<◌, false, true, List, [], ◌++◌, length, take, drop, refl, sym, ap, subst, ◌∙◌, inl, inr, arith}
use Rattle.std.proofs.lemmas.List.{length-take, length-take-le, take-take, take-append-drop}
use Rattle.kv_frame.specs.declared.frame.Frame.{Frame}
use Rattle.kv_frame.specs.declared.frame.Side.TheVariants.{Requests}
use Rattle.kv_frame.specs.declared.judging.Judged.TheVariants as judged
use Rattle.kv_frame.specs.Judging.{BeginsWith, IsBad}
use Rattle.kv_frame.specs.Grammar.{IsFrame, spelling}
use Rattle.kv_frame.proofs.Unique.{begun, judges_only}
use Rattle.kv_frame.proofs.Growing.{still_bad}
use Rattle.kv_request.specs.declared.request.Features.{Features}
use Rattle.kv_session.specs.declared.answers.Made.{Made}
use Rattle.kv_session.specs.declared.session.Next.{Next}
use Rattle.kv_session.specs.declared.session.Next.TheVariants as nexts
use Rattle.kv_session.specs.Filling.{Filled}
use Rattle.kv_session.specs.Making.{IsMadeOf, HandsOut}
use Rattle.kv_session.specs.Session.{Line, Feeds, Gives, Advances}
use Rattle.kv_session.proofs.Giving.{hands_gives}
use Rattle.kv_session.proofs.Missing.{lacking_not_filled}

-- of two frames at the front of the same bytes both are as long
same_size : (bytes : List ℕ) (f g : Frame) (m n : ℕ) → BeginsWith Requests bytes f m → BeginsWith Requests bytes g n → m ≡ n
same_size bytes f g m n x y =
    let b = begun Requests bytes f m x in
    let one : judged.Whole m ≡ judged.Whole (length (spelling f)) = judges_only Requests bytes (judged.Whole m) f (drop m bytes) b.0 b.1 (f, x) in
    let two : judged.Whole n ≡ judged.Whole (length (spelling f)) = judges_only Requests bytes (judged.Whole n) f (drop m bytes) b.0 b.1 (g, y) in
    cc

-- a frame at the front of a front is at the front
begins_behind : (bytes : List ℕ) (k : ℕ) (g : Frame) (m : ℕ) → BeginsWith Requests (take k bytes) g m → BeginsWith Requests bytes g m
begins_behind bytes k g m (within, begins) =
    let size = length-take k bytes in
    (omega (arith, within, size), subst (λ (l : List ℕ). IsFrame Requests g l) (take-take m k bytes (omega (arith, within, size))) begins)

-- before its last byte a frame isn't whole, and nothing is wrong
front_not_filled : (bytes : List ℕ) (f : Frame) (used k : ℕ) → BeginsWith Requests bytes f used → k < used → Filled (take k bytes) → ⊥
front_not_filled bytes f used k begins lt (inl (g, m, starts)) =
    let same : m ≡ used = same_size bytes g f m used (begins_behind bytes k g m starts) begins in
    omega (arith, same, starts.0, length-take k bytes)
front_not_filled bytes f used k begins lt (inr (place, fault, bad)) =
    let b = begun Requests bytes f used begins in
    let still : IsBad Requests bytes place fault =
    subst (λ (l : List ℕ). IsBad Requests l place fault) (take-append-drop k bytes) (still_bad Requests (take k bytes) (drop k bytes) place fault bad) in
    let told : judged.Bad place fault ≡ judged.Whole (length (spelling f)) = judges_only Requests bytes (judged.Bad place fault) f (drop used bytes) b.0 b.1 still in
    absurd (cc)

-- the frame at the front is whole in its own bytes
pub begins_own : (bytes : List ℕ) (f : Frame) (used : ℕ) → BeginsWith Requests bytes f used → BeginsWith Requests (take used bytes) f used
begins_own bytes f used (within, begins) =
    (omega (arith, length-take-le used bytes within), subst (λ (l : List ℕ). IsFrame Requests f l) (sym (take-take used used bytes (omega arith))) begins)

-- feeding a piece that begins with a whole frame takes that frame
pub lies_whole : (old : Line) (piece : List ℕ) (f : Frame) (used : ℕ) → old.held ≡ [] → old.quit ≡ false → BeginsWith Requests piece f used → Feeds old piece (record old { held = take used piece }) used
lies_whole old piece f used empty going begins =
    let at : (k : ℕ) → old.held ++ take k piece ≡ take k piece = λ (k : ℕ). ap (λ (l : List ℕ). l ++ take k piece) empty in
    record {
      within = begins.0;
      taken = ap (λ (l : List ℕ). record old { held = l }) (sym (at used));
      enough = inr (inr (inl (f, used, begins_own piece f used begins)));
      no_more = λ k lt full. elim full [
        | inl quitted ↦ absurd (let e : true ≡ false = sym quitted ∙ going in cc)
        | inr filled ↦ front_not_filled piece f used k begins lt (subst Filled (at k) filled)
      ];
    }

-- what the session makes of a frame that lies in a piece it makes of the bytes that were taken
pub made_own : (features : Features) (piece : List ℕ) (made : Made) (used : ℕ) → IsMadeOf features piece made used → IsMadeOf features (take used piece) made used
made_own features piece made used m = record { frame = m.frame; begins = begins_own piece m.frame used m.begins; makes = m.makes; spells = m.spells }

-- the frame that lies in a piece is given out
pub lies_gives : (old new : Line) (piece : List ℕ) (made : Made) (used : ℕ) (next : Next) → old.held ≡ [] → old.quit ≡ false → IsMadeOf old.features piece made used → HandsOut old made new next
    → Advances old piece new used next
lies_gives old new piece made used next empty going m hands =
    let between : Line = record old { held = take used piece } in
    let all : used ≡ length (take used piece) = omega (arith, length-take-le used piece m.begins.0) in
    (between, lies_whole old piece m.frame used empty going m.begins, hands_gives old between new made used next refl refl going (made_own old.features piece made used m) all hands)

-- where bytes of a frame are missing all of the piece was taken
pub more_takes_all : (old between new : Line) (piece : List ℕ) (n missing : ℕ) → Feeds old piece between n → Gives between new (nexts.More missing) → n ≡ length piece
more_takes_all old between new piece n missing feeds (going, lacks, is) =
    elim feeds.enough [
      | inl all ↦ all
      | inr full ↦ elim full [
        | inl quitted ↦ absurd (let e : true ≡ false = sym quitted ∙ going in cc)
        | inr filled ↦ absurd (lacking_not_filled between.held missing lacks filled)
      ]
    ]
