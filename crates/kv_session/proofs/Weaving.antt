-- One more frame behind those that were answered.
use Rattle.std.proofs.Common.{◌≡◌, ℕ, false, List, [], ◌∷◌, ◌++◌, drop, refl, sym, ap, subst, ◌∙◌, append_assoc, append-nil, take-append-drop}
use Rattle.std.proofs.lemmas.Grind.{flat_map-append}
use Rattle.std.specs.List.{AllByRecursion, flat_map}
use Rattle.kv_frame.specs.declared.frame.Frame.{Frame}
use Rattle.kv_frame.specs.declared.frame.Side.TheVariants.{Requests}
use Rattle.kv_frame.specs.Grammar.{spelling}
use Rattle.kv_frame.specs.Judging.{BeginsWith}
use Rattle.kv_request.specs.declared.request.Request.{Request}
use Rattle.kv_request.specs.declared.reply.Reply.{Reply}
use Rattle.kv_request.specs.Sending.{sent_bytes}
use Rattle.kv_session.specs.Answers.{made_by}
use Rattle.kv_session.specs.Cutting.{Standing, at_start, behind, behind_all, NoneBehindQuit, IsSent, IsRead}
use Rattle.kv_session.specs.Weaving.{IsTold, AreTold, reply_bytes}

-- where a connection stands behind one frame
abbrev pub behind_one : Standing → Frame → Standing
behind_one old f = behind old (made_by old.features f)

pub stands_more : (old : Standing) (fs : List Frame) (f : Frame) → behind_all old (fs ++ f ∷ []) ≡ behind_one (behind_all old fs) f
stands_more old [] f = refl
stands_more old (g ∷ gs) f = stands_more (behind_one old g) gs f

open_more : (old : Standing) (fs : List Frame) (f : Frame) → NoneBehindQuit old fs → (behind_all old fs).quit ≡ false → NoneBehindQuit old (fs ++ f ∷ [])
open_more old [] f none going = (going, tt)
open_more old (g ∷ gs) f none going = (none.0, open_more (behind_one old g) gs f none.1 going)

all_more : {X : Type 0} (P : X → Type 0) (xs : List X) (x : X) → AllByRecursion P xs → P x → AllByRecursion P (xs ++ x ∷ [])
all_more P [] x all here = (here, tt)
all_more P (y ∷ ys) x all here = (all.0, all_more P ys x all.1 here)

bytes_more : (fs : List Frame) (f : Frame) → flat_map spelling (fs ++ f ∷ []) ≡ flat_map spelling fs ++ spelling f
bytes_more fs f = flat_map-append spelling fs (f ∷ []) ∙ ap (λ (l : List ℕ). flat_map spelling fs ++ l) (append-nil (spelling f))

-- the frame that the rest begins with is read
pub read_more : (bytes : List ℕ) (fs : List Frame) (rest : List ℕ) (f : Frame) (used : ℕ) → IsRead bytes fs rest → (behind_all at_start fs).quit ≡ false → BeginsWith Requests rest f used
    → IsRead bytes (fs ++ f ∷ []) (drop used rest)
read_more bytes fs rest f used read going (within, begins) =
    let front : rest ≡ spelling f ++ drop used rest = sym (take-append-drop used rest) ∙ ap (λ (l : List ℕ). l ++ drop used rest) begins.spelled in
    record {
      spelled =
          read.spelled
          ∙ ap (λ (l : List ℕ). flat_map spelling fs ++ l) front
          ∙ sym (append_assoc (flat_map spelling fs) (spelling f) (drop used rest))
          ∙ ap (λ (l : List ℕ). l ++ drop used rest) (sym (bytes_more fs f));
      sent = all_more IsSent fs f read.sent (record { of_side = begins.of_side; fits = begins.fits });
      open_before = open_more at_start fs f read.open_before going;
    }

-- more bytes behind the rest
pub read_further : (bytes : List ℕ) (fs : List Frame) (rest more : List ℕ) → IsRead bytes fs rest → IsRead (bytes ++ more) fs (rest ++ more)
read_further bytes fs rest more read = record {
  spelled = ap (λ (l : List ℕ). l ++ more) read.spelled ∙ append_assoc (flat_map spelling fs) rest more;
  sent = read.sent;
  open_before = read.open_before;
}

-- one more frame is answered
pub told_more : {S : Type 0} (Answers : Request → S → Reply → S → Type 0) (old : Standing) (begin : S) (fs : List Frame) (replies : List Reply) (mid end : S) (f : Frame) (reply : Reply)
    → AreTold Answers old begin fs replies mid → IsTold Answers (made_by (behind_all old fs).features f) mid reply end → AreTold Answers old begin (fs ++ f ∷ []) (replies ++ reply ∷ []) end
told_more {S = S} Answers old begin [] [] mid end f reply same answer =
    (end, subst (λ (s : S). IsTold Answers (made_by old.features f) s reply end) same answer, refl)
told_more Answers old begin [] (r ∷ rs) mid end f reply others answer = absurd others
told_more Answers old begin (g ∷ gs) [] mid end f reply others answer = absurd others
told_more Answers old begin (g ∷ gs) (r ∷ rs) mid end f reply (next, first, others) answer =
    (next, first, told_more Answers (behind_one old g) next gs rs mid end f reply others answer)

-- the bytes of one more reply
pub reply_bytes_more : {S : Type 0} (Answers : Request → S → Reply → S → Type 0) (old : Standing) (begin : S) (fs : List Frame) (replies : List Reply) (end : S) (f : Frame) (reply : Reply)
    → AreTold Answers old begin fs replies end
    → reply_bytes old (fs ++ f ∷ []) (replies ++ reply ∷ []) ≡ reply_bytes old fs replies ++ sent_bytes (behind_one (behind_all old fs) f).features reply
reply_bytes_more Answers old begin [] [] end f reply same = append-nil (sent_bytes (behind_one old f).features reply)
reply_bytes_more Answers old begin [] (r ∷ rs) end f reply others = absurd others
reply_bytes_more Answers old begin (g ∷ gs) [] end f reply others = absurd others
reply_bytes_more Answers old begin (g ∷ gs) (r ∷ rs) end f reply (next, first, others) =
    let bytes : List ℕ = sent_bytes (behind_one old g).features r in
    ap (λ (l : List ℕ). bytes ++ l) (reply_bytes_more Answers (behind_one old g) next gs rs end f reply others)
    ∙ sym (append_assoc bytes (reply_bytes (behind_one old g) gs rs) (sent_bytes (behind_one (behind_all (behind_one old g) gs) f).features reply))
