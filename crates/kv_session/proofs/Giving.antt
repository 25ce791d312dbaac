-- What is given out of a frame.
use Rattle.std.proofs.Common.{◌≡◌, ℕ, Bool, false, List, [], length, drop, sym, Result, Ok, Err, refl, ap, subst, ◌∙◌}
use Rattle.std.proofs.Math.Seq.{drop-length}
use Rattle.kv_frame.specs.declared.frame.Frame.{Frame}
use Rattle.doc_model.specs.declared.status.Status.{Status}
use Rattle.kv_request.specs.declared.request.Features.{Features}
use Rattle.kv_request.specs.declared.request.Request.{Request}
use Rattle.kv_request.specs.declared.request.Body.{Body}
use Rattle.kv_request.specs.declared.request.Body.TheVariants as bodies
use Rattle.kv_request.specs.declared.reply.Reply.{Reply}
use Rattle.kv_request.specs.Tables.{request, IsReply, IsRequest, is_for_session}
use Rattle.kv_session.specs.declared.answers.Made.{Made}
use Rattle.kv_session.specs.declared.answers.Made.TheVariants as mades
use Rattle.kv_session.specs.declared.finding.Found.{Found}
use Rattle.kv_session.specs.declared.finding.Found.TheVariants as founds
use Rattle.kv_session.specs.declared.session.Next.{Next}
use Rattle.kv_session.specs.declared.session.Next.TheVariants as nexts
use Rattle.kv_session.specs.Answers as answers
use Rattle.kv_session.specs.Answers.{made_of, made_from, made_by}
use Rattle.kv_session.specs.Making.{Spells, IsMadeOf, FindsIn, HandsOut}
use Rattle.kv_session.specs.Session.{Line, Gives}
use Rattle.kv_session.proofs.Feeding.{line_of}

-- a request that is passed on is the frame's
passed_same : (features : Features) (made other : Request) (body : Body) → made_of features made body ≡ answers.Passed other → made ≡ other
passed_same features made other (bodies.Hello wanted) e = absurd (cc)
passed_same features made other bodies.Noop e = absurd (cc)
passed_same features made other bodies.Version e = absurd (cc)
passed_same features made other bodies.Quit e = absurd (cc)
passed_same features made other body e = cc

passed_read : (features : Features) (f : Frame) (read : Result Request Status) (made : Request) → made_from features f read ≡ answers.Passed made → read ≡ Ok made
passed_read features f (Ok other) made e = let same : other ≡ made = passed_same features other made other.body e in cc
passed_read features f (Err refusing) made e = absurd (cc)

-- a request that is passed on isn't the session's
passed_other : (features : Features) (made other : Request) (body : Body) → made_of features made body ≡ answers.Passed other → is_for_session body ≡ false
passed_other features made other (bodies.Hello wanted) e = absurd (cc)
passed_other features made other bodies.Noop e = absurd (cc)
passed_other features made other bodies.Version e = absurd (cc)
passed_other features made other bodies.Quit e = absurd (cc)
passed_other features made other body e = refl

passed_from : (features : Features) (f : Frame) (read : Result Request Status) (made : Request) → made_from features f read ≡ answers.Passed made → is_for_session made.body ≡ false
passed_from features f (Ok other) made e =
    subst (λ (r : Request). is_for_session r.body ≡ false) (passed_same features other made other.body e) (passed_other features other made other.body e)
passed_from features f (Err refusing) made e = absurd (cc)

-- a request that is given out is some frame's
pub gives_request : (old new : Line) (made : Request) → Gives old new (nexts.Request made) → IsRequest made
gives_request old new made (going, f, used, begins, m, is) = (old.features, f, begins.1.fits, passed_read old.features f (request old.features f) made m)

-- and it asks something of a vbucket
pub gives_other : (old new : Line) (made : Request) → Gives old new (nexts.Request made) → is_for_session made.body ≡ false
gives_other old new made (going, f, used, begins, m, is) = passed_from old.features f (request old.features f) made m

-- what was found at the front of what is held was made of it
pub found_made : (features : Features) (quit : Bool) (held bytes : List ℕ) (old : Line) (found : Found) (made : Made) (used : ℕ) → line_of features quit held ≡ old → bytes ≡ held
    → FindsIn features bytes found → found ≡ founds.Frame made used → IsMadeOf old.features old.held made used
found_made features quit held bytes old found made used is same finds found-is =
    let one : IsMadeOf features bytes made used = subst (FindsIn features bytes) found-is finds in
    let two : IsMadeOf features held made used = subst (λ (l : List ℕ). IsMadeOf features l made used) same one in
    subst (λ (line : Line). IsMadeOf line.features line.held made used) is two

-- what was found at the front of a piece was made of it
pub line_found : (features : Features) (quit : Bool) (held piece : List ℕ) (old : Line) (found : Found) (made : Made) (used : ℕ) → line_of features quit held ≡ old
    → FindsIn features piece found → found ≡ founds.Frame made used → IsMadeOf old.features piece made used
line_found features quit held piece old found made used is finds found-is =
    let one : IsMadeOf features piece made used = subst (FindsIn features piece) found-is finds in
    subst (λ (line : Line). IsMadeOf line.features piece made used) is one

-- what was made of all that is held is given out
pub hands_gives : (old line new : Line) (made : Made) (used : ℕ) (next : Next) → line.features ≡ old.features → line.quit ≡ old.quit → line.quit ≡ false → IsMadeOf line.features line.held made used → used ≡ length line.held
    → HandsOut old made new next → Gives line new next
hands_gives old line new (mades.Passed made) used next same ends going m all (next-is, new-is) =
    let empty : drop used line.held ≡ [] = ap (λ (n : ℕ). drop n line.held) all ∙ drop-length line.held in
    let left : new ≡ line_of line.features line.quit (drop used line.held) =
    new-is ∙ ap (λ (x : Features). line_of x old.quit []) (sym same) ∙ ap (λ (b : Bool). line_of line.features b []) (sym ends) ∙ ap (line_of line.features line.quit) (sym empty) in
    subst (Gives line new) (sym next-is) (going, m.frame, used, m.begins, m.makes, left)
hands_gives old line new (mades.Told reply features quit) used next same ends going m all (next-is, new-is) =
    let empty : drop used line.held ≡ [] = ap (λ (n : ℕ). drop n line.held) all ∙ drop-length line.held in
    subst (Gives line new) (sym next-is) (going, m.frame, used, features, quit, m.begins, m.makes, new-is ∙ ap (line_of features quit) (sym empty))

-- a reply of the session's own that is given out has a frame
pub hands_reply : (old new : Line) (made : Made) (next : Next) (reply : Reply) → Spells made → HandsOut old made new next → next ≡ nexts.Refused reply → IsReply reply
hands_reply old new (mades.Passed made) next reply spells (is, left) e = absurd (cc)
hands_reply old new (mades.Told other features quit) next reply spells (is, left) e = let same : other ≡ reply = cc in subst IsReply same spells
