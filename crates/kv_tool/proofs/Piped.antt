-- How opening, serving and closing make a call of `pipe`.
use Rattle.std.proofs.Common.{◌≡◌, ℕ, ◌≤◌, List, Option, Some, Result, Ok, Err, IfSome, IfOk, IfErr, sym, subst}
use Rattle.magma_disk.specs.Counting.{Counts}
use Rattle.magma_disk.specs.Device.{Device}
use Rattle.magma_disk.specs.Moments.{Throughout}
use Rattle.magma_store.specs.declared.fault.StoreFault.{StoreFault}
use Rattle.magma_store.specs.Counting.{CountsStore}
use Rattle.magma_store.proofs.StoreCounts.{counts_then}
use Rattle.vb_core.specs.Openings.{OpensVb, LeavesRefused}
use Rattle.vb_core.specs.Shown.{ShownVb}
use Rattle.kv_tool.specs.declared.exit.Exit.{Exit}
use Rattle.kv_tool.specs.declared.exit.Exit.TheVariants as exits
use Rattle.kv_tool.specs.Course.{only_chain, Knowledge, Begins, IsKnown}
use Rattle.kv_tool.proofs.Closing.{IsOfClosing}
use Rattle.kv_tool.proofs.Opened.{Opened, opened}

-- what was opened
pub opened_is : {D : Type 0} (states : D → List Device) (before : List Device) (result : Result (ShownVb D) StoreFault) (vb : ShownVb D) → result ≡ Ok vb → OpensVb states before only_chain 0 0 result → OpensVb states before only_chain 0 0 (Ok vb)
opened_is states before result vb is opens = subst (λ (r : Result (ShownVb _) StoreFault). OpensVb states before only_chain 0 0 r) is opens

pub refused_is : {D : Type 0} (states : D → List Device) (before : List Device) (result : Result (ShownVb D) StoreFault) (why : StoreFault) → result ≡ Err why → OpensVb states before only_chain 0 0 result → OpensVb states before only_chain 0 0 (Err why)
refused_is states before result why is opens = subst (λ (r : Result (ShownVb _) StoreFault). OpensVb states before only_chain 0 0 r) is opens

-- what a crash leaves of a disk that was handed back
pub moments_back : {D : Type 0} (states : D → List Device) (before : List Device) (result : Result (ShownVb D) StoreFault) (back : Option D) (why : StoreFault) (disk : D) → result ≡ Err why → back ≡ Some disk
    → IfErr result (λ why. IfSome back (λ disk. Throughout (LeavesRefused why before only_chain 0 0) before (states disk)))
    → Throughout (LeavesRefused why before only_chain 0 0) before (states disk)
moments_back {D} states before result back why disk is there all =
    subst (λ (b : Option D). IfSome b (λ disk. Throughout (LeavesRefused why before only_chain 0 0) before (states disk))) there
    (subst (λ (r : Result (ShownVb D) StoreFault). IfErr r (λ why. IfSome back (λ disk. Throughout (LeavesRefused why before only_chain 0 0) before (states disk)))) is all)

-- what the opening counts
pub counted_as : {D : Type 0} (counts : D → Counts) (first : Counts) (failed : Type 0) (result : Result (ShownVb D) StoreFault) (vb : ShownVb D) → result ≡ Ok vb
    → IfOk result (λ vb. CountsStore failed first (counts vb.store.disk)) → CountsStore failed first (counts vb.store.disk)
counted_as {D} counts first failed result vb is c = subst (λ (r : Result (ShownVb D) StoreFault). IfOk r (λ vb. CountsStore failed first (counts vb.store.disk))) is c

-- how the answering stops that begins with a vbucket which was just opened
pub stops_opened : {D : Type 0} (states : D → List Device) (counts : D → Counts) (before : List Device) (faults : ℕ) (vb old : ShownVb D) (Stopped : List Device → ℕ → Type 0) → old ≡ vb → OpensVb states before only_chain 0 0 (Ok vb)
    → faults ≤ (counts vb.store.disk).faults
    → ((before : List Device) (faults : ℕ) (begin : Knowledge) → Begins before begin → IsKnown states counts faults old begin → Stopped before faults) → Stopped before faults
stops_opened {D} states counts before faults vb old Stopped same opens le stops =
    let o : Opened states counts before faults vb = opened states counts before faults vb opens le in
    stops before faults o.begin o.begins (subst (λ (v : ShownVb D). IsKnown states counts faults v o.begin) (sym same) o.is_known)

-- what is counted from the opening to the last flush
pub counts_all : {D : Type 0} (counts : D → Counts) (first : Counts) (failed : Type 0) (vb old served closed : ShownVb D) (disk : D) (came_to exit : Exit) → old ≡ vb → disk ≡ closed.store.disk → IsOfClosing came_to exit
    → CountsStore failed first (counts vb.store.disk) → CountsStore ⊥ (counts old.store.disk) (counts served.store.disk)
    → CountsStore ((came_to ≡ exits.Done) × (exit ≡ exits.DiskFault)) (counts served.store.disk) (counts closed.store.disk)
    → CountsStore (exit ≡ exits.DiskFault) first (counts disk)
counts_all {D} counts first failed vb old served closed disk came_to exit same kept of_closing opening serving closing =
    let open_to : CountsStore ⊥ first (counts served.store.disk) =
    counts_then failed ⊥ ⊥ first (counts vb.store.disk) (counts served.store.disk) (λ never. never) opening
    (subst (λ (v : ShownVb D). CountsStore ⊥ (counts v.store.disk) (counts served.store.disk)) same serving) in
    subst (λ (d : D). CountsStore (exit ≡ exits.DiskFault) first (counts d)) (sym kept)
    (counts_then ⊥ ((came_to ≡ exits.Done) × (exit ≡ exits.DiskFault)) (exit ≡ exits.DiskFault) first (counts served.store.disk) (counts closed.store.disk) (λ e. (of_closing.failed e, e)) open_to closing)
