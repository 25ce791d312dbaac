-- The logs of terms along a run: with which log its owner accepted a term, and which it had when it
-- was last active at it.
use Rattle.std.specs.Prelude.{◌≡◌, ◌≢◌, ◌⊎◌, ℕ, ◌-◌, ◌<◌, ◌≤◌, nat_eq, Bool, true, false, ◌&&◌, take, List, [], ◌∷◌, length, Option, Some, None, if◌then◌else◌}
use Rattle.kv_request.specs.declared.reply.Reply.{Reply}
use Rattle.kv_request.specs.declared.request.Request.{Request}
use Rattle.kv_request.specs.declared.request.Durability.{Durability}
use Rattle.doc_model.specs.declared.key.DocKey.{DocKey}
use Rattle.doc_model.specs.declared.document.What.{What}
use Rattle.doc_model.specs.declared.status.TheConstants.Status as status
use Rattle.vb_log.specs.declared.entry.Entry.{Entry}
use Rattle.vb_log.specs.declared.entry.Entry.TheVariants as entries
use Rattle.vb_log.specs.Logs.{LogKind, whole_logs}
use Rattle.replica_core.specs.Terms.{is_active, is_term, owner}
use Rattle.copy_model.specs.declared.outcome.Ticket.{Ticket}
use Rattle.copy_model.specs.declared.outcome.Outcome.TheVariants as outcomes
use Rattle.copy_model.specs.declared.outcome.Polled.TheVariants as polls
use Rattle.copy_model.specs.Copies.{Copy, LayoutKind}
use Rattle.copy_model.specs.Entries.{log_length}
use Rattle.copy_model.specs.Events.{Event, Requests, Polls, Told, Answered, PolledTo}
use Rattle.world_model.specs.Worlds.{Seat, Up, Down, Nobody, World, seat_at, Step, Happens, Crashes, Opens, Run, Start, Then}

-- Of a term: whether its owner accepted it, the log with which it did, and the log that it had at
-- the last moment at which it was active at it.
pub record Term (L : Type 0) : Type 0 where
  pub had : Bool
  pub base : L
  pub lead : L

-- a term that nobody accepted
abbrev pub no_term : {L : Type 0} → LogKind L → Term L
no_term k = record { had = false; base = k.begin; lead = k.begin }

-- a term that its owner has accepted: at the first such moment the log on its disk is the base
abbrev pub accepted_by : {L Y : Type 0} → Copy L Y → Term L → Term L
accepted_by c t = if t.had then t else record { had = true; base = c.disk.log; lead = c.disk.log }

-- the log that an active has is the lead
abbrev pub led_by : {L Y : Type 0} → Bool → Copy L Y → Term L → Term L
led_by true c t = record t { lead = c.log }
led_by false c t = t

-- what a world adds to what is known of a term: its owner is up and has accepted it
abbrev pub term_by : {L Y : Type 0} → ℕ → Seat L Y → Term L → Term L
term_by term (Up c) t =
    if is_term term && nat_eq c.accepted term
    then led_by (is_active c.role) c (accepted_by c t) else t
term_by term (Down disk torn) t = t
term_by term Nobody t = t

-- a term along a run
abbrev pub term_of :
    {L Y : Type 0} {k : LogKind L} {y : LayoutKind Y} {s w : World L Y} → Run k y s w → ℕ → Term L
term_of {k = k} Start term = no_term k
term_of (Then {w = w} run last) term =
    term_by term (seat_at w (owner term)) (term_of run term)

-- ---- what stands

-- a log begins another
pub record Begins (log other : List Entry) : Type 0 where
  pub short : length log ≤ length other
  pub same : take (length log) other ≡ log

-- the entry at a position, which counts from 1
abbrev pub entry_at : List Entry → ℕ → Option Entry
entry_at [] position = None
entry_at (e ∷ es) position = if nat_eq position 1 then Some e else entry_at es (position - 1)

-- The write that was prepared at a position of a term stands in another: the other's base has it
-- and all before it, and the other's lead has no Abort of it.
pub record Stands (terms : ℕ → Term (List Entry)) (term position other : ℕ) : Type 0 where
  pub base : Begins (take position (terms term).lead) (terms other).base
  pub no_abort : (p : ℕ) → entry_at (terms other).lead p ≢ Some (entries.Abort position)

-- ---- what was answered

-- A write with a level was answered Success in an event that left this copy: at once, by the reply
-- to its request, or to a poll of its ticket. Its prepare stands at a position of a term. A copy
-- that is polled may have another log by now, so there the level is that of the prepare in the lead
-- of the ticket's term.
pub data IsAnswered
    {Y : Type 0} (terms : ℕ → Term (List Entry)) (c d : Copy (List Entry) Y)
    : Event (List Entry) → Told (List Entry) → ℕ → ℕ → ℕ → Type 0 where
  At_once : (request : Request) (now : ℕ) (durability : Durability) (reply : Reply) (key : DocKey)
      (what : What) (position : ℕ)
      → request.durability ≡ Some durability → reply.status ≡ status.SUCCESS
      → log_length whole_logs c < position
      → entry_at d.log position ≡ Some (entries.Prepare key what durability.level)
      → IsAnswered terms c d (Requests request now) (Answered (outcomes.Reply reply))
      durability.level c.accepted position
  Polled : (ticket : Ticket) (reply : Reply) (key : DocKey) (what : What) (level : ℕ)
      → reply.status ≡ status.SUCCESS
      → entry_at (terms ticket.term).lead ticket.prepare ≡ Some (entries.Prepare key what level)
      → IsAnswered terms c d (Polls ticket) (PolledTo (polls.Done reply)) level ticket.term
      ticket.prepare

-- a step of the world answered such a write
abbrev pub AnswersIn :
    {Y : Type 0} {y : LayoutKind Y} {v w : World (List Entry) Y}
    → (ℕ → Term (List Entry)) → Step whole_logs y v w → ℕ → ℕ → ℕ → Type 0
AnswersIn terms (Happens x c new told e up may goes) level term position =
    IsAnswered terms c new e told level term position
AnswersIn terms (Crashes x c up) level term position = ⊥
AnswersIn terms (Opens x disk d torn luck down may laid) level term position = ⊥

-- a run answered such a write
abbrev pub HasAnswered :
    {Y : Type 0} {y : LayoutKind Y} {s w : World (List Entry) Y}
    → Run whole_logs y s w → ℕ → ℕ → ℕ → Type 0
HasAnswered Start level term position = ⊥
HasAnswered (Then run last) level term position =
    AnswersIn (term_of (Then run last)) last level term position
    ⊎ HasAnswered run level term position
