-- What the laws of a copy's steps speak of: replies that tell success, promotions, longer logs.
use Rattle.std.specs.Prelude.{◌≡◌, ℕ, ◌+◌, Bool, true, false, List, [], ◌∷◌, ◌++◌, length, Option, Some, None}
use Rattle.kv_request.specs.declared.reply.Reply.{Reply}
use Rattle.vb_log.specs.declared.entry.Entry.{Entry}
use Rattle.vb_log.specs.declared.entry.Entry.TheVariants as entries
use Rattle.vb_log.specs.Logs.{whole_logs}
use Rattle.replica_core.specs.declared.fences.FenceAnswer.{FenceAnswer}
use Rattle.replica_core.specs.Promotion.{promote_fault}
use Rattle.copy_model.specs.declared.outcome.Ticket.{Ticket}
use Rattle.copy_model.specs.Copies.{Message, EntrySent, AckSent, RejoinSent, AdoptSent, Fate, Waiting, Stood, Aborted, Left, OpenTicket, Copy}
use Rattle.copy_model.specs.Entries.{core_of}
use Rattle.copy_model.specs.Requests.{stood_at}
use Rattle.copy_model.specs.Events.{Event, Requests, Polls, Forgets, Hears, Speaks, TellsChange, Ticks, Flushes, Cleans, Fences, Promotes, SetsState}

-- A reply to a ticket of this fate tells where the Commit of its prepare stands.
pub record TellsWhere (ticket : Ticket) (fate : Option Fate) (reply : Reply) : Type 0 where
  pub position : ℕ
  pub stood : fate ≡ Some (Stood position)
  pub told : reply ≡ stood_at position ticket.reply

-- An event is a promotion by answers that allow it, and the copy has its term afterwards.
pub record IsPromoted {Y : Type 0} (e : Event (List Entry)) (before after : Copy (List Entry) Y)
    : Type 0 where
  pub term : ℕ
  pub answers : List FenceAnswer
  pub weak : Bool
  pub promoted : e ≡ Promotes term answers weak
  pub rightful : promote_fault (core_of whole_logs before) term answers weak ≡ None
  pub at_term : after.accepted ≡ term

-- a log goes on from another one
pub record IsLonger (old new : List Entry) : Type 0 where
  pub more : List Entry
  pub is : new ≡ old ++ more

-- whether a message brings all of a log
abbrev pub brings_all : {L : Type 0} → Message L → Bool
brings_all (EntrySent term position entry) = false
brings_all (AckSent term mem disk) = false
brings_all (RejoinSent term accepted length incarnation) = false
brings_all (AdoptSent term incarnation log) = true

-- whether an event is that a copy hears a message which brings all of a log
abbrev pub hears_all : {L : Type 0} → Event L → Bool
hears_all (Requests request now) = false
hears_all (Polls ticket) = false
hears_all (Forgets ticket) = false
hears_all (Hears sent) = brings_all sent.message
hears_all Speaks = false
hears_all TellsChange = false
hears_all (Ticks now) = false
hears_all Flushes = false
hears_all (Cleans most) = false
hears_all (Fences term) = false
hears_all (Promotes term answers weak) = false
hears_all (SetsState state) = false

-- at a position of a log the Commit of a prepare stands
pub record HasCommit (log : List Entry) (prepare position : ℕ) : Type 0 where
  pub before : List Entry
  pub behind : List Entry
  pub is : log ≡ before ++ entries.Commit prepare ∷ behind
  pub at : length before + 1 ≡ position

-- a prepare of this fate has its Commit where the fate says that it stands
abbrev pub IsBorne : List Entry → ℕ → Fate → Type 0
IsBorne log prepare Waiting = Unit {0}
IsBorne log prepare (Stood position) = HasCommit log prepare position
IsBorne log prepare Aborted = Unit {0}
IsBorne log prepare Left = Unit {0}

-- a log has the Commit of each ticket that stands, at the ticket's position
abbrev pub AreBorne : List Entry → List OpenTicket → Type 0
AreBorne log [] = Unit {0}
AreBorne log (t ∷ ts) = IsBorne log t.prepare t.fate × AreBorne log ts

-- A reply to a ticket tells the position of its Commit in a log.
pub record TellsCommit (log : List Entry) (ticket : Ticket) (reply : Reply) : Type 0 where
  pub position : ℕ
  pub stands : HasCommit log ticket.prepare position
  pub told : reply ≡ stood_at position ticket.reply

-- A copy's log and its promise are on disk at an accepted term, all of what it was before an event.
pub record IsStored {L Y : Type 0} (term : ℕ) (before after : Copy L Y) : Type 0 where
  pub log : after.disk.log ≡ before.log
  pub accepted : after.disk.accepted ≡ term
  pub promise : after.disk.promise ≡ before.promise
  pub incarnation : after.disk.incarnation ≡ before.incarnation
