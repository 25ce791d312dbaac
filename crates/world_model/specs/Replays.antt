-- Where a script has come to, and what one event of a copy does and tells.
use Rattle.std.specs.Prelude.{◌≡◌, ◌≢◌, ◌⊎◌, ℕ, ◌+◌, Bool, false, get_or, set, drop, map as list_map, List, [], ◌∷◌, ◌++◌, length, Option, Some, None, if◌then◌else◌}
use Rattle.kv_frame.specs.declared.frame.Frame.{Frame}
use Rattle.kv_frame.specs.declared.frame.Side.TheVariants.{Requests as FromClients}
use Rattle.kv_frame.specs.declared.judging.Fault.{Fault as FrameFault}
use Rattle.kv_frame.specs.Judging.{BeginsWith, IsBad}
use Rattle.kv_request.specs.declared.request.Features.{Features}
use Rattle.kv_request.specs.declared.reply.Reply.{Reply}
use Rattle.kv_request.specs.Sending.{sent_bytes}
use Rattle.kv_session.specs.Session.{Line as Session, new_line}
use Rattle.vb_log.specs.Logs.{LogKind}
use Rattle.copy_model.specs.declared.outcome.Ticket.{Ticket}
use Rattle.copy_model.specs.declared.outcome.Polled.TheVariants as polls
use Rattle.copy_model.specs.Copies.{Sent, Copy, LayoutKind, Chance, NoMemory}
use Rattle.copy_model.specs.Events.{Event, Requests, Polls, Forgets, Hears, Speaks, TellsChange, Ticks, Flushes, Cleans, Fences, Promotes, SetsState, Told, PolledTo}
use Rattle.copy_model.specs.Laying.{May, is_faulted}
use Rattle.world_model.specs.Facts.{Fact, IsSent, Out, shown_words}
use Rattle.world_model.specs.Worlds.{Up, World, seat_at, with_copy, MayHappen}

-- ---- connections

-- A connection to a copy: its session, of which the bytes held are those that didn't go on; how many bytes went on in whole
-- frames; whether it is closed; and the ticket for which it waits.
pub record Connection : Type 0 where
  pub session : Session
  pub gone : ℕ
  pub closed : Bool
  pub waiting : Option Ticket

abbrev pub new_connection : Connection
new_connection = record { session = new_line; gone = 0; closed = false; waiting = None }

-- a copy's connections have these numbers
abbrev pub numbers : List ℕ
numbers = 0 ∷ 1 ∷ 2 ∷ 3 ∷ []

abbrev pub new_connections : List Connection
new_connections = list_map (λ (s : ℕ). new_connection) numbers

-- ---- a script that is under way

-- Where a script has come to: the world; the moment; the numbers of the messages that were delivered; the connections of each
-- place; and the places of the events that the disk failed, one for each such event.
pub record Replay (L Y : Type 0) : Type 0 where
  pub world : World L Y
  pub moment : ℕ
  pub delivered : List ℕ
  pub connections : List (List Connection)
  pub faulted : List ℕ

abbrev pub connection_at : {L Y : Type 0} → Replay L Y → ℕ → ℕ → Connection
connection_at r x s = get_or (get_or r.connections x []) s new_connection

abbrev pub with_connection : {L Y : Type 0} → ℕ → ℕ → Connection → Replay L Y → Replay L Y
with_connection x s c r =
    record r { connections = set r.connections x (set (get_or r.connections x []) s c) }

-- the places of the events that the disk failed, with one at this place that fared so
abbrev pub faulted_with : ℕ → Chance → List ℕ → List ℕ
faulted_with x chance faulted = faulted ++ (if is_faulted chance then x ∷ [] else [])

-- ---- one event

-- Want of memory ends a report, but at a request, whose reply tells it.
abbrev pub MayWant : {L : Type 0} → Event L → Chance → Type 0
MayWant (Requests request now) chance = Unit {0}
MayWant (Polls ticket) chance = chance ≢ NoMemory
MayWant (Forgets ticket) chance = chance ≢ NoMemory
MayWant (Hears sent) chance = chance ≢ NoMemory
MayWant Speaks chance = chance ≢ NoMemory
MayWant TellsChange chance = chance ≢ NoMemory
MayWant (Ticks now) chance = chance ≢ NoMemory
MayWant Flushes chance = chance ≢ NoMemory
MayWant (Cleans most) chance = chance ≢ NoMemory
MayWant (Fences term) chance = chance ≢ NoMemory
MayWant (Promotes term answers weak) chance = chance ≢ NoMemory
MayWant (SetsState state) chance = chance ≢ NoMemory

-- messages that were sent, numbered from this number on
abbrev pub sent_facts : {L : Type 0} → LogKind L → ℕ → List (Sent L) → List Fact
sent_facts k number [] = []
sent_facts k number (sent ∷ more) =
    IsSent number sent.from sent.to (shown_words (λ log. (k.view log).length) sent.message)
    ∷ sent_facts k (number + 1) more

-- An event of the copy at a place: this was told, and these messages were sent.
pub record Occurs
    {L Y : Type 0} (k : LogKind L) (y : LayoutKind Y) (x : ℕ) (e : Event L) (old : Replay L Y)
    (told : Told L) (sents : List Fact) (new : Replay L Y) : Type 0 where
  pub copy : Copy L Y
  pub after : Copy L Y
  pub up : seat_at old.world x ≡ Up copy
  pub happens : MayHappen old.world x e
  pub may : May k y e copy after told
  pub memory : MayWant e may.luck.chance
  pub sents_are : sents ≡ sent_facts k (length old.world.posts) after.unspoken
  pub new_is : new ≡ record old {
    world = with_copy x after told old.world;
    faulted = faulted_with x may.luck.chance old.faulted;
  }

-- ---- replies, and who waits

-- bytes on a connection, where there are any
abbrev pub out_bytes : ℕ → ℕ → List ℕ → List Fact
out_bytes x s [] = []
out_bytes x s (b ∷ bs) = Out x s (b ∷ bs) ∷ []

-- a reply on a connection, unless it is left unsent
abbrev pub out_facts : ℕ → ℕ → Features → Reply → List Fact
out_facts x s features reply = out_bytes x s (sent_bytes features reply)

-- a connection that waits no more
abbrev pub freed : Connection → Connection
freed c = record c { waiting = None }

-- what a poll brings to a connection that waits
abbrev pub PollBrings :
    {L Y : Type 0} → ℕ → ℕ → Replay L Y → Told L → List Fact → Replay L Y → Type 0
PollBrings x s mid (PolledTo (polls.Done reply)) facts new =
    let c = connection_at mid x s in
    (facts ≡ out_facts x s c.session.features reply) × (new ≡ with_connection x s (freed c) mid)
PollBrings x s mid (PolledTo (polls.Pending ticket)) facts new = (facts ≡ []) × (new ≡ mid)
PollBrings x s mid told facts new = ⊥

-- the connection of a number is polled, if it waits
abbrev pub PollsOne :
    {L Y : Type 0} → LogKind L → LayoutKind Y → ℕ → ℕ → Option Ticket → Replay L Y → List Fact
    → Replay L Y → Type 0
PollsOne k y x s None old facts new = (facts ≡ []) × (new ≡ old)
PollsOne {L} {Y} k y x s (Some ticket) old facts new =
    (told : Told L) × (mid : Replay L Y) × Occurs k y x (Polls ticket) old told [] mid
    × PollBrings x s mid told facts new

-- the connections of these numbers are polled in their order, those that wait
abbrev pub PollsEach :
    {L Y : Type 0} → LogKind L → LayoutKind Y → ℕ → List ℕ → Replay L Y → List Fact → Replay L Y
    → Type 0
PollsEach k y x [] old facts new = (facts ≡ []) × (new ≡ old)
PollsEach {L} {Y} k y x (s ∷ ss) old facts new =
    (first : List Fact) × (rest : List Fact) × (mid : Replay L Y)
    × PollsOne k y x s (connection_at old x s).waiting old first mid
    × PollsEach k y x ss mid rest new × (facts ≡ first ++ rest)

-- all tickets of a copy's connections that wait are polled
abbrev pub PollsAll :
    {L Y : Type 0} → LogKind L → LayoutKind Y → ℕ → Replay L Y → List Fact → Replay L Y → Type 0
PollsAll k y x old facts new = PollsEach k y x numbers old facts new

-- An event of a line, which tells this of its own, and the polls behind it.
pub record Happened
    {L Y : Type 0} (k : LogKind L) (y : LayoutKind Y) (x : ℕ) (e : Event L)
    (own : Told L → Replay L Y → List Fact) (old : Replay L Y) (facts : List Fact)
    (new : Replay L Y) : Type 0 where
  pub told : Told L
  pub sents : List Fact
  pub mid : Replay L Y
  pub occurs : Occurs k y x e old told sents mid
  pub polled : List Fact
  pub polls : PollsAll k y x mid polled new
  pub facts_are : facts ≡ own told mid ++ sents ++ polled

-- ---- what a connection goes on with

-- a connection that can go on: it is neither closed nor waiting, and holds a whole frame, or what is none
pub record CanGoOn (c : Connection) : Type 0 where
  pub going : c.closed ≡ false
  pub free : c.waiting ≡ None
  pub there : ((f : Frame) × (used : ℕ) × BeginsWith FromClients c.session.held f used)
      ⊎ ((place : ℕ) × (fault : FrameFault) × IsBad FromClients c.session.held place fault)

-- a connection behind a frame of so many bytes, with these features, and closed where that was a Quit
abbrev pub behind_frame : ℕ → Features → Bool → Connection → Connection
behind_frame used features quit c = record c {
  session = record { held = drop used c.session.held; features = features; quit = quit };
  gone = c.gone + used;
  closed = quit;
}

-- a connection that holds more bytes
abbrev pub holding : List ℕ → Connection → Connection
holding bytes c = record c { session = record c.session { held = c.session.held ++ bytes } }
