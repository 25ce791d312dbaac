-- What `pipe` comes to: the vbucket isn't opened, or it is served and closed.
use Rattle.std.proofs.Common.{◌≡◌, ◌≢◌, ℕ, List, [], ◌∷◌, Option, Result, Ok, Err, refl, sym, subst, ◌∙◌, inl, inr}
use Rattle.kv_edge.proofs.Known.{took_nothing, put_nothing}
use Rattle.magma_disk.specs.Calls.{MayLeave}
use Rattle.magma_disk.specs.Counting.{Counts}
use Rattle.magma_disk.specs.Device.{Device}
use Rattle.magma_disk.specs.Moments.{Throughout}
use Rattle.magma_store.specs.declared.fault.StoreFault.{StoreFault}
use Rattle.magma_store.specs.declared.fault.StoreFault.TheVariants as stores
use Rattle.copy_model.specs.declared.outcome.VbFault.{VbFault}
use Rattle.copy_model.specs.declared.outcome.VbFault.TheVariants as vbs
use Rattle.vb_core.specs.Openings.{OpensVb, LeavesRefused}
use Rattle.vb_core.specs.Shown.{ShownVb}
use Rattle.vb_core.proofs.Resting.{left_at_last, stays_put}
use Rattle.kv_tool.specs.declared.exit.Exit.{Exit}
use Rattle.kv_tool.specs.declared.exit.Exit.TheVariants as exits
use Rattle.kv_tool.specs.Course.{only_chain, Knowledge, IsKnown}
use Rattle.kv_tool.specs.Outcomes.{Seen, Left, Stops, Refuses, IsUnopened, Closes, closed_as, Outcome}
use Rattle.kv_tool.specs.Progress.{StopsWith, ClosesWith, Reports}
use Rattle.kv_tool.proofs.Left.{LeavesOf, is_left, keeps_all}

-- ---- not opened

refuses : {D : Type 0} (states : D → List Device) (before : List Device) (why : StoreFault) → OpensVb states before only_chain 0 0 (Err why) → Refuses before why
refuses states [] why opens = tt
refuses states (d ∷ past) stores.DiskFault opens = opens
refuses states (d ∷ past) (stores.Full needed free) opens = opens
refuses states (d ∷ past) (stores.Damaged place found expected) opens = opens
refuses states (d ∷ past) (stores.Spent found) opens = opens
refuses states (d ∷ past) stores.OtherChain opens = opens
refuses states (d ∷ past) stores.NoMemory opens = opens

-- what is seen of a call that opened no vbucket
abbrev unopened_seen : Option (List ℕ) → Option (List ℕ) → List Device → List Device → ℕ → ℕ → Seen
unopened_seen left written before now faults_before faults_now = record {
  left_before = left;
  left_now = left;
  written_before = written;
  written_now = written;
  disk_before = before;
  disk_now = now;
  faults_before = faults_before;
  faults_now = faults_now;
}

is_unopened : {D : Type 0} (states : D → List Device) (left written : Option (List ℕ)) (before now : List Device) (faults_before faults_now : ℕ) (why : StoreFault) → OpensVb states before only_chain 0 0 (Err why)
    → Throughout (LeavesRefused why before only_chain 0 0) before now → IsUnopened (unopened_seen left written before now faults_before faults_now) why
is_unopened states left written before now faults_before faults_now why opens moments = record {
  took = took_nothing left;
  wrote = put_nothing written;
  refused = refuses states before why opens;
  leaves = λ image may. left_at_last (LeavesRefused why before only_chain 0 0) before now image moments may;
}

reported : (Moment : ℕ → Type 0) (seen : Seen) (why : StoreFault) (exit : Exit) → IsUnopened seen why → Reports why exit → Outcome Moment seen exit
reported Moment seen stores.DiskFault exit is e = subst (Outcome Moment seen) (sym e) (inl is)
reported Moment seen (stores.Full needed free) exit is e = subst (Outcome Moment seen) (sym e) (inl is)
reported Moment seen (stores.Damaged place found expected) exit is e = subst (Outcome Moment seen) (sym e) (refl, is)
reported Moment seen (stores.Spent found) exit is e = subst (Outcome Moment seen) (sym e) is
reported Moment seen stores.OtherChain exit is e = subst (Outcome Moment seen) (sym e) (refl, is)
reported Moment seen stores.NoMemory exit is e = subst (Outcome Moment seen) (sym e) (inl is)

pub unopened : {D : Type 0} (states : D → List Device) (Moment : ℕ → Type 0) (left written : Option (List ℕ)) (before now : List Device) (faults_before faults_now : ℕ) (why : StoreFault) (exit : Exit) → OpensVb states before only_chain 0 0 (Err why)
    → Throughout (LeavesRefused why before only_chain 0 0) before now → Reports why exit → Outcome Moment (unopened_seen left written before now faults_before faults_now) exit
unopened states Moment left written before now faults_before faults_now why exit opens moments is =
    reported Moment (unopened_seen left written before now faults_before faults_now) why exit (is_unopened states left written before now faults_before faults_now why opens moments) is

-- it isn't told as an exit that no opening has
pub record IsOfOpening (why : StoreFault) (exit : Exit) : Type 0 where
  pub served : exit ≢ exits.Usage
  pub reads : exit ≢ exits.ReadFault
  pub writes : exit ≢ exits.WriteFault
  pub failed : exit ≡ exits.DiskFault → why ≡ stores.DiskFault

of_told : (why : StoreFault) (exit told : Exit) → exit ≡ told → (told ≡ exits.Usage → ⊥) → (told ≡ exits.ReadFault → ⊥) → (told ≡ exits.WriteFault → ⊥) → (told ≡ exits.DiskFault → why ≡ stores.DiskFault) → IsOfOpening why exit
of_told why exit told is a b c d = record {
  served = λ e. a (sym is ∙ e);
  reads = λ e. b (sym is ∙ e);
  writes = λ e. c (sym is ∙ e);
  failed = λ e. d (sym is ∙ e);
}

pub of_opening : (why : StoreFault) (exit : Exit) → Reports why exit → IsOfOpening why exit
of_opening stores.DiskFault exit is = of_told stores.DiskFault exit exits.DiskFault is (λ e. absurd (cc)) (λ e. absurd (cc)) (λ e. absurd (cc)) (λ e. refl)
of_opening (stores.Full needed free) exit is = of_told (stores.Full needed free) exit (exits.Full needed free) is (λ e. absurd (cc)) (λ e. absurd (cc)) (λ e. absurd (cc)) (λ e. absurd (cc))
of_opening (stores.Damaged place found expected) exit is =
    of_told (stores.Damaged place found expected) exit (exits.Damaged 0 place found expected) is (λ e. absurd (cc)) (λ e. absurd (cc)) (λ e. absurd (cc)) (λ e. absurd (cc))
of_opening (stores.Spent found) exit is = of_told (stores.Spent found) exit (exits.Spent found) is (λ e. absurd (cc)) (λ e. absurd (cc)) (λ e. absurd (cc)) (λ e. absurd (cc))
of_opening stores.OtherChain exit is = of_told stores.OtherChain exit (exits.OtherChain 0) is (λ e. absurd (cc)) (λ e. absurd (cc)) (λ e. absurd (cc)) (λ e. absurd (cc))
of_opening stores.NoMemory exit is = of_told stores.NoMemory exit exits.NoMemory is (λ e. absurd (cc)) (λ e. absurd (cc)) (λ e. absurd (cc)) (λ e. absurd (cc))

-- ---- where memory is refused before the opening

pub opens_none : {D : Type 0} (states : D → List Device) (before : List Device) → OpensVb states before only_chain 0 0 (Err stores.NoMemory)
opens_none states [] = tt
opens_none states (d ∷ past) = tt

leaves_none : (before : List Device) (image : List ℕ) → MayLeave before image → LeavesRefused stores.NoMemory before only_chain 0 0 image
leaves_none [] image may = tt
leaves_none (d ∷ past) image may = inl may

pub moments_none : (before : List Device) → Throughout (LeavesRefused stores.NoMemory before only_chain 0 0) before before
moments_none before = stays_put (LeavesRefused stores.NoMemory before only_chain 0 0) before before refl (leaves_none before)

-- ---- served

-- the same of what is known of the disk
pub stops_left : (Moment : ℕ → Type 0) (seen : Seen) (states : List Device) (faults : ℕ) (Last Left : Knowledge → Type 0) (exit : Exit) → ((known : Knowledge) → Last known → Left known) → Stops Moment seen Last exit
    → Stops Moment (record seen { disk_now = states; faults_now = faults }) Left exit
stops_left Moment seen states faults Last Left exits.Done left (run, is, took, fin, wrote, last) = (run, is, took, fin, wrote, left run.end last)
stops_left Moment seen states faults Last Left exits.ReadFault left (run, is, took, opened, wrote, last) = (run, is, took, opened, wrote, left run.end last)
stops_left Moment seen states faults Last Left exits.WriteFault left (run, is, took, wrote, last) = (run, is, took, wrote, left run.end last)
stops_left Moment seen states faults Last Left exits.NoMemory left (run, known, is, took, wrote, loses, last) = (run, known, is, took, wrote, loses, left known last)
stops_left Moment seen states faults Last Left exits.TooLong left (run, more, is, whole, took, opened, wrote, last) = (run, more, is, whole, took, opened, wrote, left run.end last)
stops_left Moment seen states faults Last Left (exits.BadFrame place) left (run, offset, fault, is, took, going, bad, at, wrote, last) = (run, offset, fault, is, took, going, bad, at, wrote, left run.end last)
stops_left Moment seen states faults Last Left (exits.Cut count) left (run, is, took, end, opened, size, some, wrote, last) = (run, is, took, end, opened, size, some, wrote, left run.end last)
stops_left Moment seen states faults Last Left exits.Usage left stops = absurd stops
stops_left Moment seen states faults Last Left exits.DiskFault left stops = absurd stops
stops_left Moment seen states faults Last Left (exits.Damaged disk place found expected) left stops = absurd stops
stops_left Moment seen states faults Last Left (exits.Spent found) left stops = absurd stops
stops_left Moment seen states faults Last Left (exits.OtherChain disk) left stops = absurd stops
stops_left Moment seen states faults Last Left (exits.Full needed free) left stops = absurd stops

-- ---- closed

-- what is told of the last flush
closed_outcome : (Moment : ℕ → Type 0) (seen : Seen) (told : Result ℕ VbFault) → Closes Moment seen told → Outcome Moment seen (closed_as told)
closed_outcome Moment seen (Ok count) closes = (Ok count, refl, closes)
closed_outcome Moment seen (Err vbs.DiskFault) closes = inr (Err vbs.DiskFault, refl, closes)
closed_outcome Moment seen (Err (vbs.Full needed free)) closes = inr (Err (vbs.Full needed free), refl, closes)
closed_outcome Moment seen (Err vbs.Dead) closes = (Err vbs.Dead, refl, closes)
closed_outcome Moment seen (Err (vbs.Promote fault)) closes = (Err (vbs.Promote fault), refl, closes)
closed_outcome Moment seen (Err vbs.NoMemory) closes = inr (inl (Err vbs.NoMemory, refl, closes))

-- what is seen in the end
abbrev pub seen_with : {D : Type 0} → (D → List Device) → (D → Counts) → Seen → D → Seen
seen_with states counts seen disk = record seen { disk_now = states disk; faults_now = (counts disk).faults }

stopped_outcome : {D : Type 0} (states : D → List Device) (counts : D → Counts) (now : ℕ) (seen : Seen) (vb closed : ShownVb D) (exit told : Exit) (disk : D) → disk ≡ closed.store.disk → LeavesOf states closed disk
    → StopsWith states counts now seen vb exit → (closed ≡ vb) × (told ≡ exit)
    → (Stops (λ moment. moment ≡ now) (seen_with states counts seen disk) (Left (seen_with states counts seen disk)) exit → Outcome (λ moment. moment ≡ now) (seen_with states counts seen disk) exit)
    → Outcome (λ moment. moment ≡ now) (seen_with states counts seen disk) told
stopped_outcome states counts now seen vb closed exit told disk same leaves stops (stays, is) make =
    subst (Outcome (λ moment. moment ≡ now) (seen_with states counts seen disk)) (sym is)
    (make (stops_left (λ moment. moment ≡ now) seen (states disk) (counts disk).faults (IsKnown states counts seen.faults_before vb) (Left (seen_with states counts seen disk)) exit
    (λ known at. is_left states counts seen.faults_before closed disk known same leaves (subst (λ (v : ShownVb _). IsKnown states counts seen.faults_before v known) (sym stays) at))
    stops))

pub closes_outcome : {D : Type 0} (states : D → List Device) (counts : D → Counts) (now : ℕ) (seen : Seen) (vb closed : ShownVb D) (came_to exit : Exit) (disk : D) → disk ≡ closed.store.disk → LeavesOf states closed disk
    → StopsWith states counts now seen vb came_to → ClosesWith states counts vb came_to closed exit → Outcome (λ moment. moment ≡ now) (seen_with states counts seen disk) exit
closes_outcome states counts now seen vb closed exits.Done exit disk same leaves (run, is, took, fin, wrote, known) closes =
    let flush = closes seen.faults_before run.end known in
    let told : Result ℕ VbFault = flush.0 in
    let last : Knowledge = flush.1 in
    subst (Outcome (λ moment. moment ≡ now) (seen_with states counts seen disk)) flush.2
    (closed_outcome (λ moment. moment ≡ now) (seen_with states counts seen disk) told
    record {
      run = run;
      last = last;
      is = is;
      took = took;
      finished = fin;
      wrote = wrote;
      puts = flush.3;
      left = is_left states counts seen.faults_before closed disk last same leaves flush.4;
      keeps = keeps_all states counts seen.faults_before vb closed disk run.end last told same leaves known flush.3 flush.4;
    })
closes_outcome states counts now seen vb closed exits.ReadFault exit disk same leaves stops closes = stopped_outcome states counts now seen vb closed exits.ReadFault exit disk same leaves stops closes (λ s. s)
closes_outcome states counts now seen vb closed exits.WriteFault exit disk same leaves stops closes = stopped_outcome states counts now seen vb closed exits.WriteFault exit disk same leaves stops closes (λ s. s)
closes_outcome states counts now seen vb closed exits.NoMemory exit disk same leaves stops closes = stopped_outcome states counts now seen vb closed exits.NoMemory exit disk same leaves stops closes (λ s. inr (inr s))
closes_outcome states counts now seen vb closed exits.TooLong exit disk same leaves stops closes = stopped_outcome states counts now seen vb closed exits.TooLong exit disk same leaves stops closes (λ s. s)
closes_outcome states counts now seen vb closed (exits.BadFrame place) exit disk same leaves stops closes = stopped_outcome states counts now seen vb closed (exits.BadFrame place) exit disk same leaves stops closes (λ s. s)
closes_outcome states counts now seen vb closed (exits.Cut count) exit disk same leaves stops closes = stopped_outcome states counts now seen vb closed (exits.Cut count) exit disk same leaves stops closes (λ s. s)
closes_outcome states counts now seen vb closed exits.Usage exit disk same leaves stops closes = absurd stops
closes_outcome states counts now seen vb closed exits.DiskFault exit disk same leaves stops closes = absurd stops
closes_outcome states counts now seen vb closed (exits.Damaged d place found expected) exit disk same leaves stops closes = absurd stops
closes_outcome states counts now seen vb closed (exits.Spent found) exit disk same leaves stops closes = absurd stops
closes_outcome states counts now seen vb closed (exits.OtherChain d) exit disk same leaves stops closes = absurd stops
closes_outcome states counts now seen vb closed (exits.Full needed free) exit disk same leaves stops closes = absurd stops

-- ---- which exits come of which

-- an exit of a run that was closed, and what the run came to
pub record IsOfClosing (came_to exit : Exit) : Type 0 where
  pub served : exit ≢ exits.Usage
  pub reads : exit ≡ exits.ReadFault → came_to ≡ exits.ReadFault
  pub writes : exit ≡ exits.WriteFault → came_to ≡ exits.WriteFault
  pub failed : exit ≡ exits.DiskFault → came_to ≡ exits.Done

of_same : (came_to exit : Exit) → exit ≡ came_to → (came_to ≡ exits.Usage → ⊥) → (came_to ≡ exits.DiskFault → ⊥) → IsOfClosing came_to exit
of_same came_to exit is a b = record {
  served = λ e. a (sym is ∙ e);
  reads = λ e. sym is ∙ e;
  writes = λ e. sym is ∙ e;
  failed = λ e. absurd (b (sym is ∙ e));
}

of_flush : (told : Result ℕ VbFault) → IsOfClosing exits.Done (closed_as told)
of_flush (Ok count) = record { served = λ e. absurd (cc); reads = λ e. absurd (cc); writes = λ e. absurd (cc); failed = λ e. refl }
of_flush (Err vbs.DiskFault) = record { served = λ e. absurd (cc); reads = λ e. absurd (cc); writes = λ e. absurd (cc); failed = λ e. refl }
of_flush (Err (vbs.Full needed free)) = record { served = λ e. absurd (cc); reads = λ e. absurd (cc); writes = λ e. absurd (cc); failed = λ e. refl }
of_flush (Err vbs.Dead) = record { served = λ e. absurd (cc); reads = λ e. absurd (cc); writes = λ e. absurd (cc); failed = λ e. refl }
of_flush (Err (vbs.Promote fault)) = record { served = λ e. absurd (cc); reads = λ e. absurd (cc); writes = λ e. absurd (cc); failed = λ e. refl }
of_flush (Err vbs.NoMemory) = record { served = λ e. absurd (cc); reads = λ e. absurd (cc); writes = λ e. absurd (cc); failed = λ e. refl }

pub of_closing : {D : Type 0} (states : D → List Device) (counts : D → Counts) (now : ℕ) (seen : Seen) (vb closed : ShownVb D) (came_to exit : Exit) → StopsWith states counts now seen vb came_to → ClosesWith states counts vb came_to closed exit
    → IsOfClosing came_to exit
of_closing states counts now seen vb closed exits.Done exit (run, is, took, fin, wrote, known) closes =
    let flush = closes seen.faults_before run.end known in
    subst (IsOfClosing exits.Done) flush.2 (of_flush flush.0)
of_closing states counts now seen vb closed exits.ReadFault exit stops closes = of_same exits.ReadFault exit closes.1 (λ e. absurd (cc)) (λ e. absurd (cc))
of_closing states counts now seen vb closed exits.WriteFault exit stops closes = of_same exits.WriteFault exit closes.1 (λ e. absurd (cc)) (λ e. absurd (cc))
of_closing states counts now seen vb closed exits.NoMemory exit stops closes = of_same exits.NoMemory exit closes.1 (λ e. absurd (cc)) (λ e. absurd (cc))
of_closing states counts now seen vb closed exits.TooLong exit stops closes = of_same exits.TooLong exit closes.1 (λ e. absurd (cc)) (λ e. absurd (cc))
of_closing states counts now seen vb closed (exits.BadFrame place) exit stops closes = of_same (exits.BadFrame place) exit closes.1 (λ e. absurd (cc)) (λ e. absurd (cc))
of_closing states counts now seen vb closed (exits.Cut count) exit stops closes = of_same (exits.Cut count) exit closes.1 (λ e. absurd (cc)) (λ e. absurd (cc))
of_closing states counts now seen vb closed exits.Usage exit stops closes = absurd stops
of_closing states counts now seen vb closed exits.DiskFault exit stops closes = absurd stops
of_closing states counts now seen vb closed (exits.Damaged disk place found expected) exit stops closes = absurd stops
of_closing states counts now seen vb closed (exits.Spent found) exit stops closes = absurd stops
of_closing states counts now seen vb closed (exits.OtherChain disk) exit stops closes = absurd stops
of_closing states counts now seen vb closed (exits.Full needed free) exit stops closes = absurd stops
