-- That what a script does is a run of the world.
use Rattle.std.specs.Prelude.{◌≡◌, ℕ, Bool, true, List, [], ◌∷◌, Option, Some, None, Result, Ok, Err, refl}
use Rattle.std.proofs.Common.{subst, sym, ap, inl, inr}
use Rattle.kv_script.specs.declared.line.Line.{Line}
use Rattle.kv_script.specs.declared.line.Line.TheVariants as lines
use Rattle.vb_log.specs.Logs.{LogKind}
use Rattle.durability_core.specs.declared.chain.Chain.{Chain}
use Rattle.replica_core.specs.declared.fences.FenceAnswer.{FenceAnswer}
use Rattle.copy_model.specs.declared.outcome.Ticket.{Ticket}
use Rattle.copy_model.specs.declared.outcome.Polled.TheVariants as polls
use Rattle.copy_model.specs.Copies.{Sent, LayoutKind}
use Rattle.copy_model.specs.Events.{Event, Told, Answered, PolledTo, Spoke, ToldChange, FlushedTo, CleanedTo, FencedWith, Ended, Quietly}
use Rattle.copy_model.specs.Laying.{IsBegun}
use Rattle.world_model.specs.Facts.{Fact}
use Rattle.world_model.specs.Replays.{Replay, numbers, with_connection, behind_frame, Occurs, PollBrings, PollsOne, PollsEach, Happened, connection_at}
use Rattle.world_model.specs.Connections.{behind_outcome, GoesOnce, Bad, Own, Asks, GoesOn, Rests, Goes, Served}
use Rattle.world_model.specs.Scripts.{IfUp, PromotesBy, Delivers, DeliversAll, AtEnd, Passes, Gives, OpensAt, CrashesAt, LineDoes, LinesDo, Reports, IsChain}
use Rattle.world_model.specs.Worlds.{Seat, Up, Down, Nobody, World, Run, Start, Then, Happens, Crashes, Opens, first_world, seat_at, with_seat, seat_after}

-- a script that goes on from a world that a run reached has reached another by a run
abbrev RunsOn : {L Y : Type 0} → LogKind L → LayoutKind Y → World L Y → Replay L Y → Replay L Y → Type 0
RunsOn k y s old new = Run k y s old.world → Run k y s new.world

-- ---- one event

occurs_on : {L Y : Type 0} {k : LogKind L} {y : LayoutKind Y} {s : World L Y} {x : ℕ} {e : Event L} {old new : Replay L Y} {told : Told L} {sents : List Fact}
    → Occurs k y x e old told sents new → RunsOn k y s old new
occurs_on {k = k} {y = y} {s = s} {x = x} {e = e} {told = told} o run =
    subst (λ (r : Replay _ _). Run k y s r.world) (sym o.new_is)
    (Then run (Happens x o.copy o.after told e o.up o.happens o.may))

-- what a poll brings leaves the world
brings_nothing : {L Y : Type 0} (x n : ℕ) (mid new : Replay L Y) (told : Told L) (facts : List Fact)
    → PollBrings x n mid told facts new → new.world ≡ mid.world
brings_nothing x n mid new (PolledTo (polls.Done reply)) facts b = ap (λ (r : Replay _ _). r.world) b.1
brings_nothing x n mid new (PolledTo (polls.Pending ticket)) facts b = ap (λ (r : Replay _ _). r.world) b.1
brings_nothing x n mid new (Answered outcome) facts b = absurd b
brings_nothing x n mid new (Spoke sent) facts b = absurd b
brings_nothing x n mid new (ToldChange seen) facts b = absurd b
brings_nothing x n mid new (FlushedTo result) facts b = absurd b
brings_nothing x n mid new (CleanedTo result) facts b = absurd b
brings_nothing x n mid new (FencedWith result) facts b = absurd b
brings_nothing x n mid new (Ended result) facts b = absurd b
brings_nothing x n mid new Quietly facts b = absurd b

polled_on : {L Y : Type 0} (k : LogKind L) (y : LayoutKind Y) (s : World L Y) (x n : ℕ) (waiting : Option Ticket) (old new : Replay L Y) (facts : List Fact)
    → PollsOne k y x n waiting old facts new → RunsOn k y s old new
polled_on k y s x n None old new facts p run = subst (λ (r : Replay _ _). Run k y s r.world) (sym p.1) run
polled_on k y s x n (Some ticket) old new facts p run =
    subst (Run k y s) (sym (brings_nothing x n p.1 new p.0 facts p.3)) (occurs_on p.2 run)

each_on : {L Y : Type 0} (k : LogKind L) (y : LayoutKind Y) (s : World L Y) (x : ℕ) (ns : List ℕ) (old new : Replay L Y) (facts : List Fact)
    → PollsEach k y x ns old facts new → RunsOn k y s old new
each_on k y s x [] old new facts p run = subst (λ (r : Replay _ _). Run k y s r.world) (sym p.1) run
each_on k y s x (n ∷ ns) old new facts p run =
    each_on k y s x ns p.2 new p.1 p.4
    (polled_on k y s x n (connection_at old x n).waiting old p.2 p.0 p.3 run)

happened_on : {L Y : Type 0} {k : LogKind L} {y : LayoutKind Y} {s : World L Y} {x : ℕ} {e : Event L} {own : Told L → Replay L Y → List Fact} {old new : Replay L Y} {facts : List Fact}
    → Happened k y x e own old facts new → RunsOn k y s old new
happened_on {k = k} {y = y} {s = s} {x = x} {new = new} h run =
    each_on k y s x numbers h.mid new h.polled h.polls (occurs_on h.occurs run)

-- ---- connections

once_on : {L Y : Type 0} (k : LogKind L) (y : LayoutKind Y) (s : World L Y) (x n : ℕ) (old new : Replay L Y) (facts : List Fact)
    → GoesOnce k y x n old facts new → RunsOn k y s old new
once_on k y s x n old new facts (Bad b) run =
    each_on k y s x numbers (with_connection x n (record (connection_at old x n) { closed = true }) old) new b.polled b.polls run
once_on k y s x n old new facts (Own o) run =
    each_on k y s x numbers (with_connection x n (behind_frame o.used o.features o.quit (connection_at old x n)) old) new o.polled o.polls run
once_on k y s x n old new facts (Asks a) run =
    each_on k y s x numbers (with_connection x n (behind_outcome a.outcome (connection_at a.mid x n)) a.mid) new a.polled a.polls
    (occurs_on a.occurs run)

goes_on : {L Y : Type 0} (k : LogKind L) (y : LayoutKind Y) (s : World L Y) (x : ℕ) (old : Replay L Y) (facts : List Fact) (new : Replay L Y)
    → GoesOn k y x old facts new → RunsOn k y s old new
goes_on k y s x old facts new (Rests _ none) run = run
goes_on k y s x old facts new (Goes n first rest _ mid _ is once more) run =
    goes_on k y s x mid rest new more (once_on k y s x n old mid first once run)

served_on : {L Y : Type 0} {k : LogKind L} {y : LayoutKind Y} {s : World L Y} {x : ℕ} {e : Event L} {own : Told L → Replay L Y → List Fact} {old new : Replay L Y} {facts : List Fact}
    → Served k y x e own old facts new → RunsOn k y s old new
served_on {k = k} {y = y} {s = s} {x = x} {new = new} v run =
    goes_on k y s x v.mid v.rest new v.goes (happened_on v.happened run)

-- ---- lines

-- what tells something and leaves a script where it is
stays_on : {L Y : Type 0} (k : LogKind L) (y : LayoutKind Y) (s : World L Y) (old new : Replay L Y)
    → new ≡ old → RunsOn k y s old new
stays_on k y s old new e run = subst (λ (r : Replay _ _). Run k y s r.world) (sym e) run

-- what is done to a copy that is up goes on, so all that is done goes on
if_up_on : {L Y : Type 0} (k : LogKind L) (y : LayoutKind Y) (s : World L Y) (does : Replay L Y → List Fact → Replay L Y → Type 0)
    (x : ℕ) (seat : Seat L Y) (old : Replay L Y) (facts : List Fact) (new : Replay L Y)
    → (does old facts new → RunsOn k y s old new) → IfUp does x seat old facts new → RunsOn k y s old new
if_up_on k y s does x (Up c) old facts new goes d = goes d
if_up_on k y s does x (Down disk torn) old facts new goes d = stays_on k y s old new d.1
if_up_on k y s does x Nobody old facts new goes d = absurd d

promotes_on : {L Y : Type 0} (k : LogKind L) (y : LayoutKind Y) (s : World L Y) (x term : ℕ) (weak : Bool) (answers : Result (List FenceAnswer) ℕ) (old : Replay L Y) (facts : List Fact) (new : Replay L Y)
    → PromotesBy k y term weak answers x old facts new → RunsOn k y s old new
promotes_on k y s x term weak (Ok answers) old facts new p = served_on p
promotes_on k y s x term weak (Err j) old facts new p = stays_on k y s old new p.1

delivers_on : {L Y : Type 0} (k : LogKind L) (y : LayoutKind Y) (s : World L Y) (number : ℕ) (sent : Sent L) (old : Replay L Y) (facts : List Fact) (new : Replay L Y)
    → Delivers k y number sent old facts new → RunsOn k y s old new
delivers_on k y s number sent old facts new d =
    if_up_on k y s _ sent.to (seat_at old.world sent.to) old facts new (λ v. served_on v) d

all_on : {L Y : Type 0} (k : LogKind L) (y : LayoutKind Y) (s : World L Y) (bound number : ℕ) (old : Replay L Y) (facts : List Fact) (new : Replay L Y)
    → DeliversAll k y bound number old facts new → RunsOn k y s old new
all_on k y s bound number old facts new (AtEnd _) run = run
all_on k y s bound number old facts new (Passes _ _ _ _ below none more) run = all_on k y s bound _ old facts new more run
all_on k y s bound number old facts new (Gives _ post _ mid _ first rest below waits one more) run =
    all_on k y s bound _ mid rest new more (delivers_on k y s number post.sent old first mid one run)

opens_on : {L Y : Type 0} (k : LogKind L) (y : LayoutKind Y) (s : World L Y) (x : ℕ) (seat : Seat L Y) (old : Replay L Y) (facts : List Fact) (new : Replay L Y)
    → seat_at old.world x ≡ seat → OpensAt k y x seat old facts new → RunsOn k y s old new
opens_on k y s x (Up c) old facts new is o = stays_on k y s old new o.1
opens_on k y s x (Down disk torn) old facts new is o = λ run.
    subst (λ (r : Replay _ _). Run k y s r.world) (sym o.new_is)
    (subst (λ z. Run k y s (with_seat x (seat_after o.pair z) old.world)) (sym o.opened_is)
    (Then run (Opens x disk o.pair torn o.luck is o.may o.laid)))
opens_on k y s x Nobody old facts new is o = absurd o

crashes_on : {L Y : Type 0} (k : LogKind L) (y : LayoutKind Y) (s : World L Y) (x : ℕ) (seat : Seat L Y) (old : Replay L Y) (facts : List Fact) (new : Replay L Y)
    → seat_at old.world x ≡ seat → CrashesAt x seat old facts new → RunsOn k y s old new
crashes_on k y s x (Up c) old facts new is d = λ run.
    subst (λ (r : Replay _ _). Run k y s r.world) (sym d.1) (Then run (Crashes x c is))
crashes_on k y s x (Down disk torn) old facts new is d = stays_on k y s old new d.1
crashes_on k y s x Nobody old facts new is d = absurd d

-- a line is steps of the world
line_on : {L Y : Type 0} (k : LogKind L) (y : LayoutKind Y) (s : World L Y) (line : Line) (old : Replay L Y) (facts : List Fact) (new : Replay L Y)
    → LineDoes k y line old facts new → RunsOn k y s old new
line_on k y s lines.Comment old facts new d = stays_on k y s old new d.1
line_on k y s (lines.Chain names) old facts new d = absurd d
line_on k y s (lines.At moment) old facts new d = λ run.
    subst (λ (r : Replay _ _). Run k y s r.world) (sym d.1) run
line_on k y s (lines.Feed name n bytes) old facts new d =
    if_up_on k y s _ d.0 (seat_at old.world d.0) old facts new (λ g run. goes_on k y s d.0 _ facts new g run) d.2
line_on k y s (lines.Deliver number) old facts new (inl d) = stays_on k y s old new d.0.1
line_on k y s (lines.Deliver number) old facts new (inr d) = delivers_on k y s number d.0.sent old facts new d.2
line_on k y s lines.All old facts new d = all_on k y s _ 0 old facts new d
line_on k y s (lines.Tick name) old facts new d =
    if_up_on k y s _ d.0 (seat_at old.world d.0) old facts new (λ v. served_on v) d.2
line_on k y s (lines.Flush name) old facts new d =
    if_up_on k y s _ d.0 (seat_at old.world d.0) old facts new (λ v. served_on v) d.2
line_on k y s (lines.Clean name most) old facts new d =
    if_up_on k y s _ d.0 (seat_at old.world d.0) old facts new (λ v. served_on v) d.2
line_on k y s (lines.Fence name term) old facts new d =
    if_up_on k y s _ d.0 (seat_at old.world d.0) old facts new (λ v. served_on v) d.2
line_on k y s (lines.Promote name term weak answers) old facts new d =
    if_up_on k y s _ d.0 (seat_at old.world d.0) old facts new (λ p. promotes_on k y s d.0 term weak _ old facts new p) d.2
line_on k y s (lines.Fuse name after) old facts new d = stays_on k y s old new d.1.1
line_on k y s (lines.Fail name after) old facts new d = stays_on k y s old new d.1.1
line_on k y s (lines.Crash name) old facts new d = crashes_on k y s d.0 _ old facts new refl d.2
line_on k y s (lines.OpenCopy name) old facts new d = opens_on k y s d.0 _ old facts new refl d.2

pub lines_on : {L Y : Type 0} (k : LogKind L) (y : LayoutKind Y) (s : World L Y) (script : List Line) (old : Replay L Y) (facts : List Fact) (new : Replay L Y)
    → LinesDo k y script old facts new → Run k y s old.world → Run k y s new.world
lines_on k y s [] old facts new d run = stays_on k y s old new d.1 run
lines_on k y s (line ∷ others) old facts new d run =
    lines_on k y s others d.2 d.1 new d.4 (line_on k y s line old d.0 d.2 d.3 run)

-- a script's report is one of a run from empty disks
pub report_on : {L Y : Type 0} (k : LogKind L) (y : LayoutKind Y) (number : ℕ) (script : List Line) (facts : List Fact) (end : Replay L Y)
    → Reports k y number script facts end
    → (layout : Y) × (chain : Chain) × IsChain chain.names × IsBegun y layout × Run k y (first_world k layout chain number) end.world
report_on k y number [] facts end r = absurd r
report_on k y number (lines.Comment ∷ others) facts end r = report_on k y number others facts end r
report_on k y number (lines.Chain names ∷ others) facts end r =
    (r.layout, record { names = names }, r.chain, r.begun, lines_on k y _ others _ r.rest end r.done Start)
report_on k y number (lines.At moment ∷ others) facts end r = absurd r
report_on k y number (lines.Feed name n bytes ∷ others) facts end r = absurd r
report_on k y number (lines.Deliver n ∷ others) facts end r = absurd r
report_on k y number (lines.All ∷ others) facts end r = absurd r
report_on k y number (lines.Tick name ∷ others) facts end r = absurd r
report_on k y number (lines.Flush name ∷ others) facts end r = absurd r
report_on k y number (lines.Clean name most ∷ others) facts end r = absurd r
report_on k y number (lines.Fence name term ∷ others) facts end r = absurd r
report_on k y number (lines.Promote name term weak answers ∷ others) facts end r = absurd r
report_on k y number (lines.Fuse name after ∷ others) facts end r = absurd r
report_on k y number (lines.Fail name after ∷ others) facts end r = absurd r
report_on k y number (lines.Crash name ∷ others) facts end r = absurd r
report_on k y number (lines.OpenCopy name ∷ others) facts end r = absurd r
