-- What calls on a line came to is what the bytes that they took say.
use Rattle.std.proofs.Common.{◌≡◌, ℕ, Bool, length, true, false, List, [], ◌∷◌, ◌++◌, take, drop, refl, sym, ap, subst, ◌∙◌, inl, inr, ◌⊎◌, append_assoc, append-nil, take-append-drop}
use Rattle.std.specs.List.{flat_map, AllByRecursion}
use Rattle.std.proofs.lemmas.List.{append_cancel_left}
use Rattle.kv_frame.specs.declared.frame.Frame.{Frame}
use Rattle.kv_frame.specs.declared.frame.Side.TheVariants.{Requests}
use Rattle.kv_frame.specs.Grammar.{spelling, IsFrame}
use Rattle.kv_frame.specs.declared.judging.Fault.{Fault}
use Rattle.kv_frame.specs.declared.judging.Judged.TheVariants as judged
use Rattle.kv_frame.specs.Judging.{Lacks, IsBad, BeginsWith}
use Rattle.kv_frame.proofs.Unique.{one_spelling, judges_only}
use Rattle.kv_request.specs.declared.request.Features.{Features}
use Rattle.kv_session.specs.declared.session.Next.{Next}
use Rattle.kv_session.specs.declared.session.Next.TheVariants as nexts
use Rattle.kv_session.specs.Answers.{Made, made_by}
use Rattle.kv_session.specs.Session.{Line, Gives, new_line}
use Rattle.kv_session.specs.Cutting.{Standing, at_start, out_of, behind, outs, behind_all, NoneBehindQuit, IsSent, IsRead, NoFrameBegins, IsDrained, Event, Fed, Gave, Runs, bytes_taken, with_next, given, IsWhole, IsLast, AsksAll}

-- ---- calls on any line

-- where a line stands
abbrev standing : Line → Standing
standing line = record { features = line.features; quit = line.quit }

-- Calls bring a line from old to new: what was held and what they took are these frames and what is held then, and each
-- frame was given out once and in order.
record IsRun (old : Line) (events : List Event) (new : Line) (frames : List Frame) : Type 0 where
  spelled : old.held ++ bytes_taken events ≡ flat_map spelling frames ++ new.held
  sent : AllByRecursion IsSent frames
  open_before : NoneBehindQuit (standing old) frames
  all_given : given events ≡ outs (standing old) frames
  stands : standing new ≡ behind_all (standing old) frames

-- a line on which nothing was called
none_run : (line : Line) → IsRun line [] line []
none_run line = record { spelled = append-nil line.held; sent = tt; open_before = tt; all_given = refl; stands = refl }

-- a piece that is fed is held behind what was held
fed_run : (old new : Line) (piece : List ℕ) (n : ℕ) (events : List Event) (frames : List Frame) → IsRun (record old { held = old.held ++ take n piece }) events new frames → IsRun old (Fed piece n ∷ events) new frames
fed_run old new piece n events frames run =
    record {
      spelled = sym (append_assoc old.held (take n piece) (bytes_taken events)) ∙ run.spelled;
      sent = run.sent;
      open_before = run.open_before;
      all_given = run.all_given;
      stands = run.stands;
    }

-- a call that gives out no frame
still_run : (old new : Line) (next : Next) (events : List Event) (frames : List Frame) → with_next next (given events) ≡ given events → IsRun old events new frames → IsRun old (Gave next ∷ events) new frames
still_run old new next events frames none run =
    record { spelled = run.spelled; sent = run.sent; open_before = run.open_before; all_given = none ∙ run.all_given; stands = run.stands }

-- a frame that is given out
frame_run : (old mid new : Line) (next : Next) (events : List Event) (f : Frame) (used : ℕ) (frames : List Frame) → old.quit ≡ false → BeginsWith Requests old.held f used → mid.held ≡ drop used old.held
    → standing mid ≡ behind (standing old) (made_by old.features f) → with_next next (given events) ≡ out_of (made_by old.features f) ∷ given events
    → IsRun mid events new frames → IsRun old (Gave next ∷ events) new (f ∷ frames)
frame_run old mid new next events f used frames going (within, begins) left stand out run =
    let front : old.held ≡ spelling f ++ mid.held =
    sym (take-append-drop used old.held) ∙ ap (λ (l : List ℕ). l ++ drop used old.held) begins.spelled ∙ ap (λ (l : List ℕ). spelling f ++ l) (sym left) in
    record {
      spelled =
          ap (λ (l : List ℕ). l ++ bytes_taken events) front
          ∙ append_assoc (spelling f) mid.held (bytes_taken events)
          ∙ ap (λ (l : List ℕ). spelling f ++ l) run.spelled
          ∙ sym (append_assoc (spelling f) (flat_map spelling frames) new.held);
      sent = (record { of_side = begins.of_side; fits = begins.fits }, run.sent);
      open_before = (going, subst (λ (s : Standing). NoneBehindQuit s frames) stand run.open_before);
      all_given = out ∙ ap (λ (l : List Next). out_of (made_by old.features f) ∷ l) (run.all_given ∙ ap (λ (s : Standing). outs s frames) stand);
      stands = run.stands ∙ ap (λ (s : Standing). behind_all s frames) stand;
    }

-- one call, and those after it
gave_run : (old mid new : Line) (next : Next) (events : List Event) (frames : List Frame) → Gives old mid next → IsRun mid events new frames → (all : List Frame) × IsRun old (Gave next ∷ events) new all
gave_run old mid new (nexts.Request made) events frames (going, f, used, begins, m, e) run = (
  f ∷ frames,
  frame_run old mid new (nexts.Request made) events f used frames going begins (ap (λ (l : Line). l.held) e)
      (ap standing e ∙ ap (behind (standing old)) (sym m))
      (ap (λ (d : Made). out_of d ∷ given events) (sym m))
      run,
)
gave_run old mid new (nexts.Refused reply) events frames (going, f, used, features, quit, begins, m, e) run = (
  f ∷ frames,
  frame_run old mid new (nexts.Refused reply) events f used frames going begins (ap (λ (l : Line). l.held) e)
      (ap standing e ∙ ap (behind (standing old)) (sym m))
      (ap (λ (d : Made). out_of d ∷ given events) (sym m))
      run,
)
gave_run old mid new (nexts.More n) events frames (going, lacks, e) run = (frames, still_run old new (nexts.More n) events frames refl (subst (λ (l : Line). IsRun l events new frames) e run))
gave_run old mid new (nexts.Bad place fault) events frames (going, bad, e) run = (frames, still_run old new (nexts.Bad place fault) events frames refl (subst (λ (l : Line). IsRun l events new frames) e run))
gave_run old mid new nexts.Quit events frames (ended, e) run = (frames, still_run old new nexts.Quit events frames refl (subst (λ (l : Line). IsRun l events new frames) e run))
gave_run old mid new nexts.NoMemory events frames (going, e) run = (frames, still_run old new nexts.NoMemory events frames refl (subst (λ (l : Line). IsRun l events new frames) e run))

-- any calls on any line
any_run : (events : List Event) (old new : Line) → Runs old events new → (frames : List Frame) × IsRun old events new frames
any_run [] old new e = ([], subst (λ (l : Line). IsRun old [] l []) (sym e) (none_run old))
any_run (Fed piece n ∷ events) old new (mid, feeds, runs) =
    let later : (frames : List Frame) × IsRun mid events new frames = any_run events mid new runs in
    (later.0, fed_run old new piece n events later.0 (subst (λ (l : Line). IsRun l events new later.0) feeds.taken later.1))
any_run (Gave next ∷ events) old new (mid, gives, runs) =
    let later : (frames : List Frame) × IsRun mid events new frames = any_run events mid new runs in
    gave_run old mid new next events later.0 gives later.1

pub any_cutting : (events : List Event) (line : Line) → Runs new_line events line → (frames : List Frame) × IsWhole events line frames
any_cutting events line runs =
    let run : (frames : List Frame) × IsRun new_line events line frames = any_run events new_line line runs in
    let whole = run.1 in (
      run.0,
      record {
        read = record { spelled = whole.spelled; sent = whole.sent; open_before = whole.open_before };
        all_given = whole.all_given;
        features = ap (λ (s : Standing). s.features) whole.stands;
        quit = ap (λ (s : Standing). s.quit) whole.stands;
      },
    )

-- ---- bytes are read in one way

-- nothing more is to be given out behind these frames
abbrev IsDone : Standing → List Frame → List ℕ → Type 0
IsDone old frames rest = ((behind_all old frames).quit ≡ true) ⊎ NoFrameBegins rest

-- where nothing more is to be given out no further frame stands
none_further : (old : Standing) (f : Frame) (fs : List Frame) (rest left : List ℕ) → IsDone old [] rest → IsSent f → NoneBehindQuit old (f ∷ fs) → rest ≡ flat_map spelling (f ∷ fs) ++ left → ⊥
none_further old f fs rest left (inl ended) sent (going, later) e = absurd (cc)
none_further old f fs rest left (inr none) sent (going, later) e = none f (flat_map spelling fs ++ left) sent (e ∙ append_assoc (spelling f) (flat_map spelling fs) left)

one_read : (frames others : List Frame) (old : Standing) (rest left : List ℕ) → AllByRecursion IsSent frames → AllByRecursion IsSent others → NoneBehindQuit old frames → NoneBehindQuit old others
    → IsDone old frames rest → IsDone old others left → flat_map spelling frames ++ rest ≡ flat_map spelling others ++ left → (frames ≡ others) × (rest ≡ left)
one_read [] [] old rest left sent gone clear going done ended e = (refl, e)
one_read [] (g ∷ gs) old rest left sent gone clear going done ended e = absurd (none_further old g gs rest left done gone.0 going e)
one_read (f ∷ fs) [] old rest left sent gone clear going done ended e = absurd (none_further old f fs left rest ended sent.0 clear (sym e))
one_read (f ∷ fs) (g ∷ gs) old rest left sent gone clear going done ended e =
    let cut : spelling f ++ (flat_map spelling fs ++ rest) ≡ spelling g ++ (flat_map spelling gs ++ left) =
    sym (append_assoc (spelling f) (flat_map spelling fs) rest) ∙ e ∙ append_assoc (spelling g) (flat_map spelling gs) left in
    let same : g ≡ f = sym (one_spelling f g (flat_map spelling fs ++ rest) (flat_map spelling gs ++ left) sent.0.fits gone.0.fits cut) in
    let further : flat_map spelling fs ++ rest ≡ flat_map spelling gs ++ left =
    append_cancel_left (spelling f) (flat_map spelling fs ++ rest) (flat_map spelling gs ++ left) (cut ∙ ap (λ (h : Frame). spelling h ++ (flat_map spelling gs ++ left)) same) in
    let tails = one_read fs gs (behind old (made_by old.features f)) rest left sent.1 gone.1 clear.1
    (subst (λ (h : Frame). NoneBehindQuit (behind old (made_by old.features h)) gs) same going.1)
    done
    (subst (λ (h : Frame). IsDone (behind old (made_by old.features h)) gs left) same ended)
    further in
    (ap (λ (h : Frame). h ∷ fs) (sym same) ∙ ap (λ (l : List Frame). g ∷ l) tails.0, tails.1)

pub one_reading : (bytes : List ℕ) (frames others : List Frame) (rest left : List ℕ) → IsRead bytes frames rest → IsDrained frames rest → IsRead bytes others left → IsDrained others left → (frames ≡ others) × (rest ≡ left)
one_reading bytes frames others rest left read done other ended =
    one_read frames others at_start rest left read.sent other.sent read.open_before other.open_before done ended (sym read.spelled ∙ other.spelled)

-- ---- two cuttings of the same bytes

-- what a frame that a client may send is spelled as
as_sent : (f : Frame) → IsSent f → IsFrame Requests f (spelling f)
as_sent f sent = record { of_side = sent.of_side; fits = sent.fits; spelled = refl }

pub lacking_begins_none : (bytes : List ℕ) (n : ℕ) → Lacks Requests bytes n → NoFrameBegins bytes
lacking_begins_none bytes n lacks f more sent e =
    let told : judged.More n ≡ judged.Whole (length (spelling f)) = judges_only Requests bytes (judged.More n) f more (as_sent f sent) e lacks in
    absurd (cc)

pub bad_begins_none : (bytes : List ℕ) (place : ℕ) (fault : Fault) → IsBad Requests bytes place fault → NoFrameBegins bytes
bad_begins_none bytes place fault bad f more sent e =
    let told : judged.Bad place fault ≡ judged.Whole (length (spelling f)) = judges_only Requests bytes (judged.Bad place fault) f more (as_sent f sent) e bad in
    absurd (cc)

-- where nothing more is to be given out is told so rightly
last_drained : (events : List Event) (line new : Line) (frames : List Frame) (next : Next) → IsWhole events line frames → Gives line new next → IsLast next → IsDrained frames line.held
last_drained events line new frames (nexts.More n) whole gives last = inr (lacking_begins_none line.held n gives.1)
last_drained events line new frames (nexts.Bad place fault) whole gives last = inr (bad_begins_none line.held place fault gives.1)
last_drained events line new frames nexts.Quit whole gives last = inl (sym whole.quit ∙ gives.0)
last_drained events line new frames (nexts.Request made) whole gives last = absurd last
last_drained events line new frames (nexts.Refused reply) whole gives last = absurd last
last_drained events line new frames nexts.NoMemory whole gives last = absurd last

same_line : (line end : Line) → line.held ≡ end.held → line.features ≡ end.features → line.quit ≡ end.quit → line ≡ end
same_line line end h f q =
    ap (λ (l : List ℕ). record line { held = l }) h ∙ ap (λ (x : Features). record { held = end.held; features = x; quit = line.quit }) f ∙ ap (λ (b : Bool). record { held = end.held; features = end.features; quit = b }) q

one_way : (events others : List Event) (line end : Line) (frames all : List Frame) → IsWhole events line frames → IsWhole others end all → IsDrained frames line.held → IsDrained all end.held → bytes_taken events ≡ bytes_taken others
    → (given events ≡ given others) × (line ≡ end)
one_way events others line end frames all whole other done ended same =
    let read = subst (λ (bytes : List ℕ). IsRead bytes frames line.held) same whole.read in
    let one : (frames ≡ all) × (line.held ≡ end.held) = one_reading (bytes_taken others) frames all line.held end.held read done other.read ended in (
      whole.all_given ∙ ap (outs at_start) one.0 ∙ sym other.all_given,
      same_line line end one.1
          (whole.features ∙ ap (λ (fs : List Frame). (behind_all at_start fs).features) one.0 ∙ sym other.features)
          (whole.quit ∙ ap (λ (fs : List Frame). (behind_all at_start fs).quit) one.0 ∙ sym other.quit),
    )

pub two_cuttings : (events others : List Event) (line end : Line) → AsksAll events line → AsksAll others end → bytes_taken events ≡ bytes_taken others → (given events ≡ given others) × (line ≡ end)
two_cuttings events others line end asked also same =
    let a = any_cutting events line asked.runs in
    let b = any_cutting others end also.runs in
    one_way events others line end a.0 b.0 a.1 b.1
    (last_drained events line asked.last.1 a.0 asked.last.0 a.1 asked.last.2 asked.last.3)
    (last_drained others end also.last.1 b.0 also.last.0 b.1 also.last.2 also.last.3)
    same
