-- How the connections of a copy go on.
use Rattle.std.specs.Prelude.{◌≡◌, ℕ, ◌+◌, ◌<◌, Bool, true, false, List, [], ◌∷◌, ◌++◌, Some}
use Rattle.kv_frame.specs.declared.frame.Frame.{Frame}
use Rattle.kv_frame.specs.declared.frame.Side.TheVariants.{Requests as FromClients}
use Rattle.kv_frame.specs.declared.judging.Fault.{Fault as FrameFault}
use Rattle.kv_frame.specs.Judging.{BeginsWith, IsBad}
use Rattle.kv_request.specs.declared.request.Request.{Request}
use Rattle.kv_request.specs.declared.request.Features.{Features}
use Rattle.kv_request.specs.declared.reply.Reply.{Reply}
use Rattle.kv_session.specs.Answers.{Passed, Told as ToldBySession, made_by}
use Rattle.vb_log.specs.Logs.{LogKind}
use Rattle.copy_model.specs.declared.outcome.Outcome.{Outcome}
use Rattle.copy_model.specs.declared.outcome.Outcome.TheVariants as outcomes
use Rattle.copy_model.specs.Copies.{LayoutKind}
use Rattle.copy_model.specs.Events.{Event, Requests, Told, Answered}
use Rattle.world_model.specs.Facts.{Fact, ClosedByQuit, ClosedByBad}
use Rattle.world_model.specs.Replays.{Connection, Replay, connection_at, with_connection, Occurs, Happened, PollsAll, CanGoOn, behind_frame, out_facts}

-- ---- one frame

-- a connection that a Quit closed
abbrev pub quit_facts : Bool → ℕ → ℕ → List Fact
quit_facts true x s = ClosedByQuit x s ∷ []
quit_facts false x s = []

-- a connection behind the outcome of its request: it waits where the request does
abbrev pub behind_outcome : Outcome → Connection → Connection
behind_outcome (outcomes.Reply reply) c = c
behind_outcome (outcomes.Parked ticket) c = record c { waiting = Some ticket }

-- the reply of an outcome, where it is one
abbrev pub outcome_facts : ℕ → ℕ → Features → Outcome → List Fact
outcome_facts x s features (outcomes.Reply reply) = out_facts x s features reply
outcome_facts x s features (outcomes.Parked ticket) = []

-- What a connection holds is no frame, which closes it: the place where that shows is told, from its first byte on.
pub record ClosesBad
    {L Y : Type 0} (k : LogKind L) (y : LayoutKind Y) (x s : ℕ) (old : Replay L Y)
    (facts : List Fact) (new : Replay L Y) : Type 0 where
  pub place : ℕ
  pub fault : FrameFault
  pub polled : List Fact
  pub bad : IsBad FromClients (connection_at old x s).session.held place fault
  pub polls : PollsAll k y x
      (with_connection x s (record (connection_at old x s) { closed = true }) old) polled new
  pub facts_are : facts ≡ ClosedByBad x s ((connection_at old x s).gone + place) ∷ polled

-- The session answers a frame by itself.
pub record AnswersItself
    {L Y : Type 0} (k : LogKind L) (y : LayoutKind Y) (x s : ℕ) (old : Replay L Y)
    (facts : List Fact) (new : Replay L Y) : Type 0 where
  pub frame : Frame
  pub used : ℕ
  pub reply : Reply
  pub features : Features
  pub quit : Bool
  pub polled : List Fact
  pub begins : BeginsWith FromClients (connection_at old x s).session.held frame used
  pub made : made_by (connection_at old x s).session.features frame ≡ ToldBySession reply features quit
  pub polls : PollsAll k y x
      (with_connection x s (behind_frame used features quit (connection_at old x s)) old) polled new
  pub facts_are : facts ≡ out_facts x s features reply ++ quit_facts quit x s ++ polled

-- A frame is a request of the copy: an event.
pub record AsksCopy
    {L Y : Type 0} (k : LogKind L) (y : LayoutKind Y) (x s : ℕ) (old : Replay L Y)
    (facts : List Fact) (new : Replay L Y) : Type 0 where
  pub frame : Frame
  pub used : ℕ
  pub request : Request
  pub outcome : Outcome
  pub mid : Replay L Y
  pub sents : List Fact
  pub polled : List Fact
  pub begins : BeginsWith FromClients (connection_at old x s).session.held frame used
  pub made : made_by (connection_at old x s).session.features frame ≡ Passed request
  pub occurs : Occurs k y x (Requests request old.moment)
      (with_connection x s
      (behind_frame used (connection_at old x s).session.features false (connection_at old x s)) old)
      (Answered outcome) sents mid
  pub polls : PollsAll k y x
      (with_connection x s (behind_outcome outcome (connection_at mid x s)) mid) polled new
  pub facts_are : facts
      ≡ sents ++ outcome_facts x s (connection_at old x s).session.features outcome ++ polled

-- A connection goes on with what it holds, and then the copy's tickets are polled.
pub data GoesOnce
    {L Y : Type 0} (k : LogKind L) (y : LayoutKind Y) (x s : ℕ) (old : Replay L Y)
    (facts : List Fact) (new : Replay L Y) : Type 0 where
  Bad : ClosesBad k y x s old facts new → GoesOnce k y x s old facts new
  Own : AnswersItself k y x s old facts new → GoesOnce k y x s old facts new
  Asks : AsksCopy k y x s old facts new → GoesOnce k y x s old facts new

-- ---- all connections of a copy

-- the connection of this number is the first of a copy that can go on
pub record IsFirstToGo {L Y : Type 0} (r : Replay L Y) (x s : ℕ) : Type 0 where
  pub is_one : s < 4
  pub can : CanGoOn (connection_at r x s)
  pub first : (t : ℕ) → t < s → CanGoOn (connection_at r x t) → ⊥

-- The connections of a copy go on: as long as one can, the first that can does.
pub data GoesOn {L Y : Type 0} (k : LogKind L) (y : LayoutKind Y) (x : ℕ)
    : Replay L Y → List Fact → Replay L Y → Type 0 where
  Rests : (old : Replay L Y) → ((s : ℕ) → s < 4 → CanGoOn (connection_at old x s) → ⊥)
      → GoesOn k y x old [] old
  Goes : (s : ℕ) (first rest : List Fact) (old mid new : Replay L Y)
      → IsFirstToGo old x s → GoesOnce k y x s old first mid → GoesOn k y x mid rest new
      → GoesOn k y x old (first ++ rest) new

-- An event of a line, and what the connections of the copy do behind it.
pub record Served
    {L Y : Type 0} (k : LogKind L) (y : LayoutKind Y) (x : ℕ) (e : Event L)
    (own : Told L → Replay L Y → List Fact) (old : Replay L Y) (facts : List Fact)
    (new : Replay L Y) : Type 0 where
  pub mid : Replay L Y
  pub first : List Fact
  pub rest : List Fact
  pub happened : Happened k y x e own old first mid
  pub goes : GoesOn k y x mid rest new
  pub facts_are : facts ≡ first ++ rest
