-- What an event makes of a copy, and what its caller is told.
use Rattle.std.specs.Prelude.{ℕ, nat_eq, nat_le, nat_lt, Bool, true, filter, map as list_map, List, [], ◌∷◌, Option, Some, None, Result, Ok, Err, if◌then◌else◌}
use Rattle.kv_request.specs.declared.request.Request.{Request}
use Rattle.vb_log.specs.Logs.{LogKind}
use Rattle.replica_core.specs.declared.copy.Role.TheVariants as roles
use Rattle.replica_core.specs.declared.fences.FenceAnswer.{FenceAnswer}
use Rattle.replica_core.specs.declared.fences.PromoteFault.{PromoteFault}
use Rattle.replica_core.specs.declared.fences.PromoteFault.TheVariants as refusals
use Rattle.replica_core.specs.Terms.{is_active, is_dead}
use Rattle.replica_core.specs.Promotion.{answer_at, is_old, promote_fault}
use Rattle.copy_model.specs.declared.outcome.Ticket.{Ticket}
use Rattle.copy_model.specs.declared.outcome.Outcome.{Outcome}
use Rattle.copy_model.specs.declared.outcome.Polled.{Polled}
use Rattle.copy_model.specs.declared.outcome.VbFault.{VbFault}
use Rattle.copy_model.specs.declared.outcome.VbFault.TheVariants as faults
use Rattle.copy_model.specs.Copies.{Sent, Seen, Deadline, Copy, Cleaning, Nothing, Moved, Freed, NoRoomToMove, LayoutKind, Luck, lacks_memory, fails_disk}
use Rattle.copy_model.specs.Entries.{log_length, core_of, ack, saying_to_all, aborted, settled, in_role, nothing_known}
use Rattle.copy_model.specs.Disk.{Put, Done, NoRoom, Failed, write_promise, write_log, flushing, dead_with}
use Rattle.copy_model.specs.Requests.{moment_of, seeing, requested, polled, forgetting}
use Rattle.copy_model.specs.Hearing.{hearing_it}

-- what an event that has nothing to tell tells
abbrev pub nothing : Unit {0}
nothing = tt

-- An event on a copy: a dead one does nothing, and where memory is wanting nothing happens.
abbrev pub if_alive :
    {L Y A : Type 0} → Luck Y → Copy L Y → Copy L Y × Result A VbFault
    → Copy L Y × Result A VbFault
if_alive luck c event =
    if is_dead c.role then (c, Err faults.Dead)
    else (if lacks_memory luck.chance then (c, Err faults.NoMemory) else event)

-- what an event tells, by what its write comes to
abbrev pub put_told :
    {L Y A : Type 0} → (Copy L Y → Copy L Y × Result A VbFault) → Copy L Y → Put (Copy L Y)
    → Copy L Y × Result A VbFault
put_told f c (Done d) = f d
put_told f c (NoRoom needed free) = (c, Err (faults.Full needed free))
put_told f c (Failed d) = (d, Err faults.DiskFault)

-- ---- a message is heard

-- a copy that heard a message tells that its disk failed, where it is dead now
abbrev pub heard_well : {L Y : Type 0} → Copy L Y → Copy L Y × Result (Unit {0}) VbFault
heard_well c = (c, if is_dead c.role then Err faults.DiskFault else Ok nothing)

abbrev pub hears :
    {L Y : Type 0} → LogKind L → LayoutKind Y → Luck Y → Sent L → Copy L Y
    → Copy L Y × Result (Unit {0}) VbFault
hears k y luck sent c = if_alive luck c (heard_well (hearing_it k y luck sent c))

-- ---- a message, or a change, is handed out

-- the oldest message
abbrev pub speaks_first : {L Y : Type 0} → Copy L Y → List (Sent L) → Copy L Y × Option (Sent L)
speaks_first c [] = (c, None)
speaks_first c (sent ∷ more) = (record c { unspoken = more }, Some sent)

abbrev pub speaks : {L Y : Type 0} → Copy L Y → Copy L Y × Option (Sent L)
speaks c = speaks_first c c.unspoken

-- the oldest change
abbrev pub tells_first : {L Y : Type 0} → Copy L Y → List Seen → Copy L Y × Option Seen
tells_first c [] = (c, None)
tells_first c (seen ∷ more) = (record c { untold = more }, Some seen)

abbrev pub tells : {L Y : Type 0} → Copy L Y → Copy L Y × Option Seen
tells c = tells_first c c.untold

-- ---- a tick

-- the prepares of this term that have waited until a moment, in rising order
abbrev pub due : {L Y : Type 0} → ℕ → Copy L Y → List ℕ
due now c =
    list_map (λ (d : Deadline). d.prepare)
    (filter (λ (d : Deadline). nat_le d.moment now) c.deadlines)

-- prepares are aborted, one after the other
abbrev pub aborting : {L Y : Type 0} → LogKind L → List ℕ → Copy L Y → Copy L Y
aborting k [] c = c
aborting k (p ∷ ps) c = aborting k ps (aborted k p c)

-- an active copy tells the others how far it is
abbrev pub telling_all : {L Y : Type 0} → LogKind L → Copy L Y → Copy L Y
telling_all k c = saying_to_all (ack k c) c

-- an active copy gives up what has waited too long, commits what is ready, and tells how far it is
abbrev pub ticking : {L Y : Type 0} → LogKind L → ℕ → Copy L Y → Copy L Y
ticking k now c =
    if is_active c.role then telling_all k (settled k (aborting k (due now c) c)) else c

abbrev pub ticks :
    {L Y : Type 0} → LogKind L → Luck Y → ℕ → Copy L Y → Copy L Y × Result (Unit {0}) VbFault
ticks k luck now c = if_alive luck c (ticking k (moment_of now) (seeing now c), Ok nothing)

-- ---- a flush

-- how many entries are on disk
abbrev pub flushed_to : {L Y : Type 0} → LogKind L → Copy L Y → Copy L Y × Result ℕ VbFault
flushed_to k c = (c, Ok (k.view c.disk.log).length)

abbrev pub flushes :
    {L Y : Type 0} → LogKind L → LayoutKind Y → Luck Y → Copy L Y → Copy L Y × Result ℕ VbFault
flushes k y luck c = if_alive luck c (put_told (flushed_to k) c (flushing k y luck c))

-- ---- a cleaning

-- what cleaning comes to that writes: done, or stopped
abbrev pub cleaning_writes :
    {L Y : Type 0} → Luck Y → Cleaning → Copy L Y → Copy L Y × Result Cleaning VbFault
cleaning_writes luck told c =
    let d = record c.disk { layout = luck.layout } in
    if fails_disk luck.chance then (dead_with (Some d) c, Err faults.DiskFault)
    else (record c { disk = d }, Ok told)

-- what cleaning comes to that writes nothing, and may fail to read
abbrev pub cleaning_reads :
    {L Y : Type 0} → Luck Y → Cleaning → Copy L Y → Copy L Y × Result Cleaning VbFault
cleaning_reads luck told c =
    if fails_disk luck.chance then (dead_with None c, Err faults.DiskFault) else (c, Ok told)

abbrev pub cleaning_as :
    {L Y : Type 0} → Luck Y → Cleaning → Copy L Y → Copy L Y × Result Cleaning VbFault
cleaning_as luck Nothing c = cleaning_reads luck Nothing c
cleaning_as luck (Moved count) c = cleaning_writes luck (Moved count) c
cleaning_as luck (Freed segment) c = cleaning_writes luck (Freed segment) c
cleaning_as luck (NoRoomToMove needed free) c =
    cleaning_reads luck (NoRoomToMove needed free) c

abbrev pub cleans :
    {L Y : Type 0} → LogKind L → LayoutKind Y → Luck Y → ℕ → Copy L Y
    → Copy L Y × Result Cleaning VbFault
cleans k y luck most c =
    if_alive luck c
    (cleaning_as luck (y.cleaned c.disk.layout most (k.view c.disk.log)) c)

-- ---- a fence

-- the answer to a fence
abbrev pub answering :
    {L Y : Type 0} → LogKind L → ℕ → Copy L Y → Copy L Y × Result FenceAnswer VbFault
answering k term c = (c, Ok (answer_at term (core_of k c)))

-- a term above the promise is promised first, and the copy is a replica then
abbrev pub fencing :
    {L Y : Type 0} → LogKind L → Luck Y → ℕ → Copy L Y → Copy L Y × Result FenceAnswer VbFault
fencing k luck term c =
    if nat_lt c.promise term
    then put_told (λ d. answering k term (in_role roles.Replica d)) c (write_promise luck term c)
    else answering k term c

abbrev pub fences :
    {L Y : Type 0} → LogKind L → Luck Y → ℕ → Copy L Y → Copy L Y × Result FenceAnswer VbFault
fences k luck term c =
    if_alive luck c
    (if is_old term (core_of k c) then (c, Err (faults.Promote refusals.Old))
    else fencing k luck term c)

-- ---- a promotion

-- A copy whose log is on disk at a term is active at it: it is whole, knows nothing of the others,
-- and has inherited the prepares that wait.
abbrev pub active_at : {L Y : Type 0} → LogKind L → ℕ → Copy L Y → Copy L Y
active_at k term c = record c {
  role = roles.Active;
  accepted = term;
  whole = true;
  inherited = log_length k c;
  deadlines = [];
  known = nothing_known c;
}

-- it tells the others how far it is, and commits what is ready
abbrev pub begun_at : {L Y : Type 0} → LogKind L → ℕ → Copy L Y → Copy L Y
begun_at k term c = settled k (telling_all k (active_at k term c))

-- by the fault of the promotion, if it has one
abbrev pub promoting :
    {L Y : Type 0} → LogKind L → LayoutKind Y → Luck Y → ℕ → Option PromoteFault → Copy L Y
    → Copy L Y × Result (Unit {0}) VbFault
promoting k y luck term (Some fault) c = (c, Err (faults.Promote fault))
promoting k y luck term None c =
    put_told (λ d. (begun_at k term d, Ok nothing)) c (write_log k y luck term c)

abbrev pub promotes :
    {L Y : Type 0} → LogKind L → LayoutKind Y → Luck Y → ℕ → List FenceAnswer → Bool → Copy L Y
    → Copy L Y × Result (Unit {0}) VbFault
promotes k y luck term answers weak c =
    if_alive luck c
    (promoting k y luck term (promote_fault (core_of k c) term answers weak) c)

-- ---- a state is set

-- 3 makes a copy pending, 4 dead; a dead one stays as it is
abbrev pub put_in_state : {L Y : Type 0} → ℕ → Copy L Y → Copy L Y
put_in_state state c =
    if is_dead c.role then c
    else (if nat_eq state 3 then in_role roles.Pending c else dead_with None c)

-- ---- any event

pub data Event (L : Type 0) : Type 0 where
  Requests : (request : Request) (now : ℕ) → Event L
  Polls : (ticket : Ticket) → Event L
  Forgets : (ticket : Ticket) → Event L
  Hears : (sent : Sent L) → Event L
  Speaks : Event L
  TellsChange : Event L
  Ticks : (now : ℕ) → Event L
  Flushes : Event L
  Cleans : (most : ℕ) → Event L
  Fences : (term : ℕ) → Event L
  Promotes : (term : ℕ) (answers : List FenceAnswer) (weak : Bool) → Event L
  SetsState : (state : ℕ) → Event L

-- what the caller is told
pub data Told (L : Type 0) : Type 0 where
  Answered : (outcome : Outcome) → Told L
  PolledTo : (polled : Polled) → Told L
  Spoke : (sent : Option (Sent L)) → Told L
  ToldChange : (seen : Option Seen) → Told L
  FlushedTo : (result : Result ℕ VbFault) → Told L
  CleanedTo : (result : Result Cleaning VbFault) → Told L
  FencedWith : (result : Result FenceAnswer VbFault) → Told L
  Ended : (result : Result (Unit {0}) VbFault) → Told L
  Quietly : Told L

abbrev pub telling : {L Y A : Type 0} → (A → Told L) → Copy L Y × A → Copy L Y × Told L
telling f r = (r.0, f r.1)

-- what a copy is after an event, and what the caller is told
abbrev pub step :
    {L Y : Type 0} → LogKind L → LayoutKind Y → Luck Y → Event L → Copy L Y → Copy L Y × Told L
step k y luck (Requests request now) c =
    telling (λ o. Answered o) (requested k y luck request now c)
step k y luck (Polls ticket) c = telling (λ p. PolledTo p) (polled ticket c)
step k y luck (Forgets ticket) c = (forgetting ticket c, Quietly)
step k y luck (Hears sent) c = telling (λ r. Ended r) (hears k y luck sent c)
step k y luck Speaks c = telling (λ s. Spoke s) (speaks c)
step k y luck TellsChange c = telling (λ s. ToldChange s) (tells c)
step k y luck (Ticks now) c = telling (λ r. Ended r) (ticks k luck now c)
step k y luck Flushes c = telling (λ r. FlushedTo r) (flushes k y luck c)
step k y luck (Cleans most) c = telling (λ r. CleanedTo r) (cleans k y luck most c)
step k y luck (Fences term) c = telling (λ r. FencedWith r) (fences k luck term c)
step k y luck (Promotes term answers weak) c =
    telling (λ r. Ended r) (promotes k y luck term answers weak c)
step k y luck (SetsState state) c = (put_in_state state c, Quietly)
