-- How far a run of `pipe` has come.
use Rattle.std.specs.Prelude.{◌≡◌, ◌≢◌, ℕ, ◌+◌, ◌<◌, ◌≤◌, true, false, List, [], ◌∷◌, ◌++◌, length, take, drop, Option, Some, None, ◌⊎◌, Result}
use Rattle.std.specs.Io.KnownBytes.{IsAtEnd}
use Rattle.kv_edge.specs.Edge.{TookAll, PutAll}
use Rattle.kv_edge.specs.declared.transfer.WriteAll.{WriteAll}
use Rattle.kv_edge.specs.declared.transfer.WriteAll.TheVariants as writing
use Rattle.kv_frame.specs.declared.frame.Frame.{Frame}
use Rattle.kv_frame.specs.declared.frame.Side.TheVariants.{Requests}
use Rattle.kv_frame.specs.declared.judging.Fault.{Fault}
use Rattle.kv_frame.specs.Judging.{BeginsWith, Lacks, IsBad}
use Rattle.kv_request.specs.declared.request.Request.{Request}
use Rattle.kv_request.specs.declared.reply.Reply.{Reply}
use Rattle.kv_session.specs.Answers.{Made, Passed, Told, made_by}
use Rattle.kv_session.specs.Cutting.{Standing, at_start, behind, behind_all, IsRead}
use Rattle.kv_request.specs.Sending.{sent_bytes}
use Rattle.kv_session.specs.Session.{Line, new_line, Feeds}
use Rattle.kv_session.specs.Weaving.{AreTold, output}
use Rattle.magma_disk.specs.Counting.{Counts}
use Rattle.magma_disk.specs.Device.{Device}
use Rattle.magma_store.specs.declared.fault.StoreFault.{StoreFault}
use Rattle.magma_store.specs.declared.fault.StoreFault.TheVariants as stores
use Rattle.copy_model.specs.declared.outcome.VbFault.{VbFault}
use Rattle.vb_core.specs.Shown.{ShownVb}
use Rattle.kv_tool.specs.declared.connection.Connection.{Connection}
use Rattle.kv_tool.specs.declared.connection.Turn.{Turn}
use Rattle.kv_tool.specs.declared.connection.Turn.TheVariants as turns
use Rattle.kv_tool.specs.declared.exit.Exit.{Exit}
use Rattle.kv_tool.specs.declared.exit.Exit.TheVariants as exits
use Rattle.kv_tool.specs.declared.piping.TheConstants.{INPUT_LIMIT}
use Rattle.kv_tool.specs.Course.{Knowledge, Answers, IsFlushed, Begins, IsKnown}
use Rattle.kv_tool.specs.Outcomes.{Seen, Took, Wrote, Stops, closed_as}

-- ---- one step of a connection

-- no byte came, and nothing is gathered
pub record IsNew {D : Type 0} (new : Connection D) : Type 0 where
  pub session : new.session ≡ new_line
  pub out : new.out.items ≡ []
  pub fed : new.fed ≡ 0

-- where a session stands
abbrev pub standing : Line → Standing
standing line = record { features = line.features; quit = line.quit }

-- A vbucket, known or not, is known to have answered a request so.
abbrev pub Asks : {D : Type 0} → (D → List Device) → (D → Counts) → ℕ → Request → ShownVb D → Reply → ShownVb D → Type 0
Asks states counts now request old reply new =
    (before : ℕ) (known : Knowledge) → IsKnown states counts before old known
    → (after : Knowledge) × Answers now request known reply after × IsKnown states counts before new after

-- The reply to a frame of which the session makes this, and the vbucket before and after: the session's own reply, at
-- which the vbucket stays, or the vbucket's.
abbrev pub Replies : {D : Type 0} → (D → List Device) → (D → Counts) → ℕ → ShownVb D → Made → ShownVb D → Reply → Type 0
Replies states counts now old (Told own features quit) new reply = (new ≡ old) × (reply ≡ own)
Replies states counts now old (Passed made) new reply = Asks states counts now made old reply new

-- The frame that the bytes held begin with was answered, and its reply gathered.
pub record AnswersOne {D : Type 0} (states : D → List Device) (counts : D → Counts) (now : ℕ) (old new : Connection D) : Type 0 where
  pub first : Frame
  pub used : ℕ
  pub reply : Reply
  pub going : old.session.quit ≡ false
  pub begins : BeginsWith Requests old.session.held first used
  pub left : new.session.held ≡ drop used old.session.held
  pub stands : standing new.session ≡ behind (standing old.session) (made_by old.session.features first)
  pub replies : Replies states counts now old.vb (made_by old.session.features first) new.vb reply
  pub gathered : new.out.items ≡ old.out.items ++ sent_bytes new.session.features reply
  pub fed : new.fed ≡ old.fed

-- A frame that begins with what was held and some of these bytes was answered, and there was no memory for the reply.
pub record LosesOne {D : Type 0} (states : D → List Device) (counts : D → Counts) (now : ℕ) (old : Connection D) (bytes : List ℕ) (new : Connection D) : Type 0 where
  pub first : Frame
  pub used : ℕ
  pub count : ℕ
  pub reply : Reply
  pub going : old.session.quit ≡ false
  pub begins : BeginsWith Requests (old.session.held ++ take count bytes) first used
  pub replies : Replies states counts now old.vb (made_by old.session.features first) new.vb reply

-- the connection is open, and bytes of a frame are missing
pub record IsWaiting (line : Line) : Type 0 where
  pub going : line.quit ≡ false
  pub lacking : (n : ℕ) × Lacks Requests line.held n

-- No further frame is answered: a Quit came, or no frame begins so.
abbrev pub IsOver : {D : Type 0} → Connection D → Exit → Type 0
IsOver c exits.Done = c.session.quit ≡ true
IsOver c (exits.BadFrame place) =
    (c.session.quit ≡ false) × (offset : ℕ) × (fault : Fault) × IsBad Requests c.session.held offset fault
    × (place + length c.session.held ≡ c.fed + offset)
IsOver c other = ⊥

-- the first bytes, this many, were fed to the session
pub record FeedsOn {D : Type 0} (old : Connection D) (bytes : List ℕ) (new : Connection D) (count : ℕ) : Type 0 where
  pub feeds : Feeds old.session bytes new.session count
  pub others : new ≡ record old { session = new.session; fed = old.fed + count }

-- bytes were fed, this many, and then the frame that they ended was answered
abbrev pub FeedsOne : {D : Type 0} → (D → List Device) → (D → Counts) → ℕ → Connection D → List ℕ → Connection D → ℕ → Type 0
FeedsOne {D = D} states counts now old bytes new count =
    (mid : Connection D) × FeedsOn old bytes mid count × AnswersOne states counts now mid new

-- What came of taking these bytes up to the end of a frame.
abbrev pub Turns : {D : Type 0} → (D → List Device) → (D → Counts) → ℕ → Connection D → List ℕ → Connection D → Turn → Type 0
Turns states counts now old bytes new (turns.Answered count) = FeedsOne states counts now old bytes new count
Turns states counts now old bytes new turns.Waits = FeedsOn old bytes new (length bytes) × IsWaiting new.session
Turns states counts now old bytes new (turns.Over exit) = (count : ℕ) × FeedsOn old bytes new count × IsOver new exit
Turns states counts now old bytes new turns.NoMemory =
    (new.out.items ≡ old.out.items) × ((new.vb ≡ old.vb) ⊎ LosesOne states counts now old bytes new)

-- the bytes of a reply were gathered, or memory was refused and nothing was
abbrev pub Gathers : {D : Type 0} → Connection D → ℕ → Reply → Connection D → Turn → Type 0
Gathers old count reply new (turns.Answered n) =
    (n ≡ count) × (new.out.items ≡ old.out.items ++ sent_bytes old.session.features reply) × (new ≡ record old { out = new.out })
Gathers old count reply new turns.NoMemory = (new.out.items ≡ old.out.items) × (new.vb ≡ old.vb)
Gathers old count reply new turns.Waits = ⊥
Gathers old count reply new (turns.Over exit) = ⊥

-- Gathered bytes were written: a front of them, and the others are still gathered, or a front of them and a fault.
abbrev pub Empties : {D : Type 0} → Option (List ℕ) → Option (List ℕ) → Connection D → Connection D → WriteAll → Type 0
Empties before after old new writing.Done = (new ≡ record old { out = new.out }) × (front : List ℕ) × PutAll before after front × (old.out.items ≡ front ++ new.out.items)
Empties before after old new writing.Failed = (new ≡ old) × (n : ℕ) × PutAll before after (take n old.out.items)

-- all gathered bytes were written, or a front of them and a fault
abbrev pub Finishes : {D : Type 0} → Option (List ℕ) → Option (List ℕ) → Connection D → Connection D → Option Exit → Option Exit → Type 0
Finishes before after old new wanted result =
    ((result ≡ wanted) × (new ≡ record old { out = new.out }) × (new.out.items ≡ []) × PutAll before after old.out.items)
    ⊎ ((result ≡ Some exits.WriteFault) × (new ≡ old) × (n : ℕ) × PutAll before after (take n old.out.items))

-- ---- a run so far

-- Of what was taken this is not yet fed. The frames of what was fed are answered, the bytes behind them are held, and of
-- the replies those that aren't written are gathered. The vbucket is what is known of it.
pub record Progress {D : Type 0} (states : D → List Device) (counts : D → Counts) (now : ℕ) (seen : Seen) (unfed : List ℕ) (connection : Connection D) : Type 0 where
  pub fed : List ℕ
  pub frames : List Frame
  pub replies : List Reply
  pub begin : Knowledge
  pub known : Knowledge
  pub sent : List ℕ
  pub took : Took seen (fed ++ unfed)
  pub small : length fed + length unfed ≤ INPUT_LIMIT
  pub count : connection.fed ≡ length fed
  pub read : IsRead fed frames connection.session.held
  pub stands : standing connection.session ≡ behind_all at_start frames
  pub begins : Begins seen.disk_before begin
  pub answered : AreTold (Answers now) at_start begin frames replies known
  pub is_known : IsKnown states counts seen.faults_before connection.vb known
  pub wrote : Wrote seen sent
  pub gathered : output frames replies ≡ sent ++ connection.out.items

-- how a run stopped at this moment, with this vbucket
abbrev pub StopsWith : {D : Type 0} → (D → List Device) → (D → Counts) → ℕ → Seen → ShownVb D → Exit → Type 0
StopsWith states counts now seen vb exit =
    Stops (λ moment. moment ≡ now) seen (IsKnown states counts seen.faults_before vb) exit

-- a piece was served: all of it, and its replies were written, or the run stopped so
abbrev pub Serves : {D : Type 0} → (D → List Device) → (D → Counts) → ℕ → Seen → Connection D → Option Exit → Type 0
Serves states counts now seen new None = Progress states counts now seen [] new × IsWaiting new.session × (new.out.items ≡ [])
Serves states counts now seen new (Some exit) = StopsWith states counts now seen new.vb exit × (exit ≢ exits.ReadFault)

-- what a run comes to whose input ended here
abbrev pub EndsAt : {D : Type 0} → Connection D → Exit → Type 0
EndsAt c exits.Done = c.session.held ≡ []
EndsAt c (exits.Cut count) = (count ≡ length c.session.held) × (0 < count)
EndsAt c other = ⊥

-- what a run comes to that took all that is taken
abbrev pub Exceeds : {D : Type 0} → Option (List ℕ) → Option (List ℕ) → Connection D → Exit → Type 0
Exceeds before after c exits.TooLong = (more : ℕ) × TookAll before after (more ∷ [])
Exceeds before after c exits.ReadFault = before ≡ after
Exceeds before after c exit = (before ≡ after) × IsAtEnd after × EndsAt c exit

-- ---- the end

-- A run that came to this was closed, and comes to that: where all was answered, the vbucket was put on disk.
abbrev pub ClosesWith : {D : Type 0} → (D → List Device) → (D → Counts) → ShownVb D → Exit → ShownVb D → Exit → Type 0
ClosesWith states counts old exits.Done new result =
    (before : ℕ) (known : Knowledge) → IsKnown states counts before old known
    → (told : Result ℕ VbFault) × (last : Knowledge) × (closed_as told ≡ result) × IsFlushed known told last × IsKnown states counts before new last
ClosesWith states counts old came_to new result = (new ≡ old) × (result ≡ came_to)

-- what a call comes to whose vbucket couldn't be opened on the first disk, for this reason
abbrev pub Reports : StoreFault → Exit → Type 0
Reports stores.DiskFault exit = exit ≡ exits.DiskFault
Reports (stores.Full needed free) exit = exit ≡ exits.Full needed free
Reports (stores.Damaged place found expected) exit = exit ≡ exits.Damaged 0 place found expected
Reports (stores.Spent found) exit = exit ≡ exits.Spent found
Reports stores.OtherChain exit = exit ≡ exits.OtherChain 0
Reports stores.NoMemory exit = exit ≡ exits.NoMemory
