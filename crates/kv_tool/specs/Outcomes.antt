-- What each exit of the top call says of the bytes that were taken and written, and of the first disk.
use Rattle.std.specs.Prelude.{◌≡◌, ◌≢◌, ℕ, ◌+◌, Bool, true, false, ◌<◌, ◌≤◌, List, [], ◌∷◌, ◌++◌, length, take, Option, IfSome, IsTrue, Result, Ok, Err, String, string_bytes, codes, ◌⊎◌}
use Rattle.std.specs.Io.KnownBytes.{IsAtEnd}
use Rattle.kv_frame.specs.declared.frame.Frame.{Frame}
use Rattle.kv_frame.specs.declared.frame.Side.TheVariants.{Requests}
use Rattle.kv_frame.specs.declared.judging.Fault.{Fault}
use Rattle.kv_frame.specs.Grammar.{spelling}
use Rattle.kv_frame.specs.Judging.{Lacks, IsBad}
use Rattle.kv_request.specs.declared.reply.Reply.{Reply}
use Rattle.kv_session.specs.Answers.{made_by}
use Rattle.kv_session.specs.Cutting.{at_start, behind_all, IsSent, IsRead}
use Rattle.kv_session.specs.Weaving.{IsTold, AreTold, output, quit_came}
use Rattle.kv_edge.specs.Edge.{TookAll, PutAll}
use Rattle.magma_disk.specs.Calls.{MayLeave}
use Rattle.magma_disk.specs.Device.{Device}
use Rattle.magma_store.specs.declared.fault.StoreFault.{StoreFault}
use Rattle.magma_store.specs.declared.fault.StoreFault.TheVariants as stores
use Rattle.magma_store.specs.Store.{IsRefused}
use Rattle.copy_model.specs.declared.outcome.VbFault.{VbFault}
use Rattle.copy_model.specs.declared.outcome.VbFault.TheVariants as vbs
use Rattle.vb_core.specs.Openings.{HasNoRoom, LeavesRefused}
use Rattle.kv_tool.specs.declared.exit.Exit.{Exit}
use Rattle.kv_tool.specs.declared.exit.Exit.TheVariants as exits
use Rattle.kv_tool.specs.declared.piping.TheConstants.{INPUT_LIMIT}
use Rattle.kv_tool.specs.Course.{only_chain, Knowledge, Answers, IsFlushed, Begins, IsLeft, KeepsAll}

-- ---- the words

-- the one word `pipe`, or `pipe` and a word that isn't empty
abbrev pub IsPipe : {A : Type 0} → List (String A) → Type 0
IsPipe [] = ⊥
IsPipe (word ∷ []) = string_bytes word ≡ codes "pipe"
IsPipe (word ∷ file ∷ []) = (string_bytes word ≡ codes "pipe") × (string_bytes file ≢ [])
IsPipe (word ∷ file ∷ other ∷ others) = ⊥

-- ---- what is seen from outside

-- a moment that the clock may have answered: the one that it tells, where it tells one
pub record IsMoment (told : Option ℕ) (may_answer : ℕ → Bool) (now : ℕ) : Type 0 where
  pub told_one : IfSome told (λ moment. now ≡ moment)
  pub allowed : IsTrue (may_answer now)

-- what was taken from a source and written to a sink, where they tell it; and the states and the faults of the first disk,
-- before and after
pub record Seen : Type 0 where
  pub left_before : Option (List ℕ)
  pub left_now : Option (List ℕ)
  pub written_before : Option (List ℕ)
  pub written_now : Option (List ℕ)
  pub disk_before : List Device
  pub disk_now : List Device
  pub faults_before : ℕ
  pub faults_now : ℕ

-- this input was taken
abbrev pub Took : Seen → List ℕ → Type 0
Took seen input = TookAll seen.left_before seen.left_now input

-- this output was written
abbrev pub Wrote : Seen → List ℕ → Type 0
Wrote seen output = PutAll seen.written_before seen.written_now output

-- this is known of the first disk
abbrev pub Left : Seen → Knowledge → Type 0
Left seen known = IsLeft seen.disk_now seen.faults_before seen.faults_now known

-- ---- runs

-- An input that `pipe` took, what it is, and the moment; and what is known of the vbucket before the first frame and behind
-- the last one.
pub record Run : Type 0 where
  pub now : ℕ
  pub input : List ℕ
  pub frames : List Frame
  pub rest : List ℕ
  pub replies : List Reply
  pub begin : Knowledge
  pub end : Knowledge

-- The input is these frames and then this rest, and these are the replies to them at this moment, from one that is known of
-- the vbucket to the other.
pub record IsServed (now : ℕ) (input : List ℕ) (frames : List Frame) (rest : List ℕ) (replies : List Reply) (begin end : Knowledge) : Type 0 where
  pub read : IsRead input frames rest
  pub answered : AreTold (Answers now) at_start begin frames replies end

-- The run is one of these moments, its input isn't too long, it begins on a disk with these states, and its frames were
-- answered.
pub record IsRun (Moment : ℕ → Type 0) (states : List Device) (run : Run) : Type 0 where
  pub moment : Moment run.now
  pub small : length run.input ≤ INPUT_LIMIT
  pub begins : Begins states run.begin
  pub served : IsServed run.now run.input run.frames run.rest run.replies run.begin run.end

-- every reply of the run was written
abbrev pub WroteAll : Seen → Run → Type 0
WroteAll seen run = Wrote seen (output run.frames run.replies)

-- a front of the replies of the run was written
abbrev pub WroteFront : Seen → Run → Type 0
WroteFront seen run = (n : ℕ) × Wrote seen (take n (output run.frames run.replies))

-- no Quit came, and the rest lacks bytes of a frame
pub record IsOpen (run : Run) : Type 0 where
  pub no_quit : quit_came run.frames ≡ false
  pub lacking : (n : ℕ) × Lacks Requests run.rest n

-- a Quit came, or the input ended behind a whole frame
abbrev pub IsFinished : Seen → Run → Type 0
IsFinished seen run = (quit_came run.frames ≡ true) ⊎ ((run.rest ≡ []) × IsAtEnd seen.left_now)

-- One further frame was answered, and there was no memory for the reply.
pub record Loses (run : Run) (last : Knowledge) : Type 0 where
  pub frame : Frame
  pub more : List ℕ
  pub reply : Reply
  pub sent : IsSent frame
  pub spelled : run.rest ≡ spelling frame ++ more
  pub going : quit_came run.frames ≡ false
  pub told : IsTold (Answers run.now) (made_by (behind_all at_start run.frames).features frame) run.end reply last

-- ---- how a run stops

-- How the answering stops, before the vbucket is put on disk, and that this is so of what is known of it then.
abbrev pub Stops : (ℕ → Type 0) → Seen → (Knowledge → Type 0) → Exit → Type 0
-- a Quit came or the input ended behind a whole frame, and all replies were written
Stops Moment seen Last exits.Done =
    (run : Run) × IsRun Moment seen.disk_before run × Took seen run.input × IsFinished seen run × WroteAll seen run × Last run.end
-- the replies to the whole frames that were taken were written
Stops Moment seen Last exits.ReadFault =
    (run : Run) × IsRun Moment seen.disk_before run × Took seen run.input × IsOpen run × WroteAll seen run × Last run.end
-- a front of the replies was written
Stops Moment seen Last exits.WriteFault =
    (run : Run) × IsRun Moment seen.disk_before run × Took seen run.input × WroteFront seen run × Last run.end
-- memory was refused, and the replies to the frames of the run were written; one further frame's reply may have found none
Stops Moment seen Last exits.NoMemory =
    (run : Run) × (last : Knowledge) × IsRun Moment seen.disk_before run × Took seen run.input × WroteAll seen run
    × ((last ≡ run.end) ⊎ Loses run last) × Last last
-- as many bytes as are taken came and one more, and the replies to the whole frames among the former were written
Stops Moment seen Last exits.TooLong =
    (run : Run) × (more : ℕ) × IsRun Moment seen.disk_before run × (length run.input ≡ INPUT_LIMIT)
    × Took seen (run.input ++ more ∷ []) × IsOpen run × WroteAll seen run × Last run.end
-- no frame begins behind the frames, and this is the place in the input that shows it
Stops Moment seen Last (exits.BadFrame place) =
    (run : Run) × (offset : ℕ) × (fault : Fault) × IsRun Moment seen.disk_before run × Took seen run.input
    × (quit_came run.frames ≡ false) × IsBad Requests run.rest offset fault
    × (place + length run.rest ≡ length run.input + offset) × WroteAll seen run × Last run.end
-- the input ended within a frame, this many bytes behind its beginning
Stops Moment seen Last (exits.Cut count) =
    (run : Run) × IsRun Moment seen.disk_before run × Took seen run.input × IsAtEnd seen.left_now × IsOpen run
    × (count ≡ length run.rest) × (0 < count) × WroteAll seen run × Last run.end
Stops Moment seen Last exits.Usage = ⊥
Stops Moment seen Last exits.DiskFault = ⊥
Stops Moment seen Last (exits.Damaged disk place found expected) = ⊥
Stops Moment seen Last (exits.Spent found) = ⊥
Stops Moment seen Last (exits.OtherChain disk) = ⊥
Stops Moment seen Last (exits.Full needed free) = ⊥

-- ---- how it ends

-- why a vbucket isn't opened on a disk that has had these states
abbrev pub Refuses : List Device → StoreFault → Type 0
Refuses [] why = Unit {0}
Refuses (d ∷ past) (stores.Full asked left) = HasNoRoom d.bytes only_chain 0 0 asked left
Refuses (d ∷ past) why = IsRefused d.bytes only_chain 0 why

-- The vbucket wasn't opened, and nothing was taken and nothing written. What a crash leaves of the disk is what the opening
-- may leave.
pub record IsUnopened (seen : Seen) (why : StoreFault) : Type 0 where
  pub took : Took seen []
  pub wrote : Wrote seen []
  pub refused : Refuses seen.disk_before why
  pub leaves : (image : List ℕ) → MayLeave seen.disk_now image → LeavesRefused why seen.disk_before only_chain 0 0 image

-- A Quit came or the input ended behind a whole frame, all replies were written, and then the vbucket was put on disk, which
-- told this.
pub record Closes (Moment : ℕ → Type 0) (seen : Seen) (told : Result ℕ VbFault) : Type 0 where
  pub run : Run
  pub last : Knowledge
  pub is : IsRun Moment seen.disk_before run
  pub took : Took seen run.input
  pub finished : IsFinished seen run
  pub wrote : WroteAll seen run
  pub puts : IsFlushed run.end told last
  pub left : Left seen last
  pub keeps : KeepsAll seen.disk_now told last

-- What a call comes to that put the vbucket on disk in the end, which told this: a dead copy isn't put there. Only a promotion
-- is refused as one.
abbrev pub closed_as : Result ℕ VbFault → Exit
closed_as (Ok count) = exits.Done
closed_as (Err vbs.DiskFault) = exits.DiskFault
closed_as (Err (vbs.Full needed free)) = exits.Full needed free
closed_as (Err vbs.Dead) = exits.Done
closed_as (Err (vbs.Promote fault)) = exits.Done
closed_as (Err vbs.NoMemory) = exits.NoMemory

-- it came to this by the last flush
abbrev pub ClosesAs : (ℕ → Type 0) → Seen → Exit → Type 0
ClosesAs Moment seen exit = (told : Result ℕ VbFault) × (closed_as told ≡ exit) × Closes Moment seen told

-- What an exit says, where the moment is one of these.
abbrev pub Outcome : (ℕ → Type 0) → Seen → Exit → Type 0
-- a Quit came or the input ended behind a whole frame, all replies were written, and the log is on disk unless the copy is dead
Outcome Moment seen exits.Done = ClosesAs Moment seen exits.Done
-- nothing was taken and nothing written
Outcome Moment seen exits.Usage = Took seen [] × Wrote seen []
-- the disk failed as the vbucket was opened; or behind all replies, as it was put on disk
Outcome Moment seen exits.DiskFault = IsUnopened seen stores.DiskFault ⊎ ClosesAs Moment seen exits.DiskFault
-- there is no room on the disk, likewise
Outcome Moment seen (exits.Full needed free) =
    IsUnopened seen (stores.Full needed free) ⊎ ClosesAs Moment seen (exits.Full needed free)
-- memory was refused, likewise, or in between
Outcome Moment seen exits.NoMemory =
    IsUnopened seen stores.NoMemory ⊎ (ClosesAs Moment seen exits.NoMemory ⊎ Stops Moment seen (Left seen) exits.NoMemory)
-- the vbucket can't be opened on the first disk
Outcome Moment seen (exits.Damaged disk place found expected) =
    (disk ≡ 0) × IsUnopened seen (stores.Damaged place found expected)
Outcome Moment seen (exits.Spent found) = IsUnopened seen (stores.Spent found)
Outcome Moment seen (exits.OtherChain disk) = (disk ≡ 0) × IsUnopened seen stores.OtherChain
-- the answering stopped, and the vbucket wasn't put on disk then
Outcome Moment seen exits.ReadFault = Stops Moment seen (Left seen) exits.ReadFault
Outcome Moment seen exits.WriteFault = Stops Moment seen (Left seen) exits.WriteFault
Outcome Moment seen exits.TooLong = Stops Moment seen (Left seen) exits.TooLong
Outcome Moment seen (exits.BadFrame place) = Stops Moment seen (Left seen) (exits.BadFrame place)
Outcome Moment seen (exits.Cut count) = Stops Moment seen (Left seen) (exits.Cut count)
