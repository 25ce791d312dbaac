-- What becomes of the vbucket that `pipe` serves: a run of its copy's events, from what the disk holds.
use Rattle.std.specs.Prelude.{◌≡◌, ℕ, ◌+◌, ◌-◌, ◌^◌, ◌≤◌, min, List, [], ◌∷◌, Option, Some, None, Result, Ok, Err, codes, if◌then◌else◌}
use Rattle.doc_model.specs.declared.status.TheConstants.Status as status
use Rattle.kv_request.specs.declared.request.Durability.{Durability}
use Rattle.kv_request.specs.declared.request.Request.{Request}
use Rattle.kv_request.specs.declared.reply.Reply.{Reply}
use Rattle.kv_request.specs.Tables.{refused}
use Rattle.durability_core.specs.declared.chain.Chain.{Chain}
use Rattle.magma_disk.specs.Counting.{Counts}
use Rattle.magma_disk.specs.Device.{Device}
use Rattle.magma_disk.specs.Calls.{MayLeave, SeesAnImage}
use Rattle.vb_log.specs.declared.entry.Pending.{Pending}
use Rattle.vb_log.specs.Content.{Content}
use Rattle.vb_log.specs.Logs.{folds}
use Rattle.copy_model.specs.declared.outcome.Outcome.TheVariants as outcomes
use Rattle.copy_model.specs.declared.outcome.VbFault.{VbFault}
use Rattle.copy_model.specs.Copies.{Copy, Chance}
use Rattle.copy_model.specs.Events.{Event, Requests, Flushes, Told, Answered, FlushedTo, step}
use Rattle.copy_model.specs.Laying.{is_faulted}
use Rattle.vb_core.specs.Coming.{next_layout}
use Rattle.vb_core.specs.Flat.{flat}
use Rattle.vb_core.specs.Means.{IsCopy}
use Rattle.vb_core.specs.Openings.{IsAllOnDisk, HoldsSound, BeginsOn, begun, put_on_disk}
use Rattle.vb_core.specs.Pairs.{HoldsOf}
use Rattle.vb_core.specs.Shown.{ShownVb}

-- the chain of the one place `a`
abbrev pub only_chain : Chain
only_chain = record { names = Some (codes "a") ∷ [] }

-- a count rose by this at least, or stands at its end
abbrev pub RoseBy : ℕ → ℕ → ℕ → Type 0
RoseBy count before now = min (before + count) (2 ^ 64 - 1) ≤ now

-- ---- what is known of a vbucket

-- What is known of a vbucket: nothing; or which copy it is, and how many of its events its disk failed.
pub data Knowledge : Type 0 where
  Unknown : Knowledge
  IsAt : (copy : Copy Content ℕ) (faults : ℕ) → Knowledge

-- ---- events

-- how many faults an event counts that fares so
abbrev pub faults_of : Chance → ℕ
faults_of chance = if is_faulted chance then 1 else 0

-- An event takes a copy to another, tells this, and counts so many faults. What it puts on disk, if anything, stands behind
-- what is there.
pub record Goes (e : Event Content) (old : Copy Content ℕ) (told : Told Content) (new : Copy Content ℕ) (count : ℕ) : Type 0 where
  pub chance : Chance
  pub goes : step folds (flat old.chain) (record { chance = chance; layout = next_layout old }) e old ≡ (new, told)
  pub counted : count ≡ faults_of chance

-- An event takes what is known further: a copy that is known to one that is.
abbrev pub GoesOn : Event Content → Knowledge → Told Content → Knowledge → Type 0
GoesOn e Unknown told new = new ≡ Unknown
GoesOn e (IsAt old faults) told new =
    (after : Copy Content ℕ) × (count : ℕ) × (new ≡ IsAt after (faults + count)) × Goes e old told after count

-- what a request at a moment is answered, by the level that it asks for: none is served yet
abbrev pub AnswersAt : Option Durability → ℕ → Request → Knowledge → Reply → Knowledge → Type 0
AnswersAt (Some level) now request old reply new =
    (reply ≡ refused request.opcode request.opaque status.NOT_SUPPORTED) × (new ≡ old)
AnswersAt None now request old reply new = GoesOn (Requests request now) old (Answered (outcomes.Reply reply)) new

-- what a request at a moment is answered
abbrev pub Answers : ℕ → Request → Knowledge → Reply → Knowledge → Type 0
Answers now request old reply new = AnswersAt request.durability now request old reply new

-- a flush tells this
abbrev pub IsFlushed : Knowledge → Result ℕ VbFault → Knowledge → Type 0
IsFlushed old told new = GoesOn Flushes old (FlushedTo told) new

-- ---- the beginning

-- What is known of a copy in whose log these changes wait: where any does, nothing, since it isn't said yet what becomes of
-- requests that meet one.
abbrev pub known_by : List Pending → Copy Content ℕ → Knowledge
known_by [] copy = IsAt copy 0
known_by (p ∷ ps) copy = Unknown

-- What is known of a vbucket as it is opened on a disk that has had these states: nothing, where the disk doesn't tell them;
-- else it is the copy on the device, active at the term of the next round, which is on disk.
abbrev pub Begins : List Device → Knowledge → Type 0
Begins [] begin = begin ≡ Unknown
Begins (d ∷ past) begin =
    (copy : Copy Content ℕ) × BeginsOn d.bytes only_chain 0 0 copy × (begin ≡ known_by copy.log.prepares (put_on_disk (begun copy)))

-- ---- the vbucket

-- A vbucket is what is known of it, and its disk's faults rose by as many as are counted since there were so many.
abbrev pub IsKnown : {D : Type 0} → (D → List Device) → (D → Counts) → ℕ → ShownVb D → Knowledge → Type 0
IsKnown states counts before vb Unknown = Unit {0}
IsKnown states counts before vb (IsAt copy faults) =
    IsCopy states vb copy × RoseBy faults before (counts vb.store.disk).faults

-- ---- the disk

-- What is known of a disk that has had these states and counts so many faults: a crash leaves a pair of the copy, and the
-- faults rose by as many as are counted.
abbrev pub IsLeft : List Device → ℕ → ℕ → Knowledge → Type 0
IsLeft states before faults_now Unknown = Unit {0}
IsLeft states before faults_now (IsAt copy faults) =
    ((image : List ℕ) → MayLeave states image → HoldsOf copy image) × RoseBy faults before faults_now

-- bytes with all of a copy's log and its accepted term, on which a copy begins with that log
abbrev pub HasAll : Copy Content ℕ → List ℕ → Type 0
HasAll copy image = IsAllOnDisk copy × HoldsSound copy image

-- After a flush that was done, all of the log and the accepted term are on a disk that has had these states: a crash leaves
-- them, and what a read gives is what a crash may leave.
abbrev pub KeepsAll : List Device → Result ℕ VbFault → Knowledge → Type 0
KeepsAll states (Ok count) (IsAt copy faults) =
    SeesAnImage states × ((image : List ℕ) → MayLeave states image → HasAll copy image)
KeepsAll states (Ok count) Unknown = Unit {0}
KeepsAll states (Err why) known = Unit {0}
