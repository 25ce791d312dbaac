-- What is known of a vbucket that was just opened.
use Rattle.std.proofs.Common.{◌≡◌, ℕ, ◌≤◌, List, [], ◌∷◌, Ok, refl, ap, inl, inr, arith}
use Rattle.magma_disk.specs.Counting.{Counts}
use Rattle.magma_disk.specs.Device.{Device}
use Rattle.magma_store.specs.Held.{Held}
use Rattle.vb_log.specs.declared.entry.Pending.{Pending}
use Rattle.vb_log.specs.Content.{Content}
use Rattle.copy_model.specs.Copies.{Pair, Copy}
use Rattle.vb_core.specs.Means.{Stands}
use Rattle.vb_core.specs.Openings.{BeginsWith, BeginsOn, OpensVb, begun, put_on_disk}
use Rattle.vb_core.specs.Shown.{ShownVb}
use Rattle.kv_tool.specs.Course.{only_chain, RoseBy, Knowledge, Unknown, known_by, Begins, IsKnown}

-- what is known of a vbucket that was opened on a disk with these states, where its disk counted so many faults before
pub record Opened {D : Type 0} (states : D → List Device) (counts : D → Counts) (before : List Device) (faults : ℕ) (vb : ShownVb D) : Type 0 where
  pub begin : Knowledge
  pub begins : Begins before begin
  pub is_known : IsKnown states counts faults vb begin

-- a copy that begins on a device has no ticket
no_tickets_with : (held : Held) (d : Pair Content ℕ) (c : Copy Content ℕ) → BeginsWith held only_chain 0 0 d c → c.tickets ≡ []
no_tickets_with held d c (inl b) = ap (λ (x : Copy Content ℕ). x.tickets) b.1
no_tickets_with held d c (inr b) = ap (λ (x : Copy Content ℕ). x.tickets) b.1

no_tickets : (bytes : List ℕ) (c : Copy Content ℕ) → BeginsOn bytes only_chain 0 0 c → c.tickets ≡ []
no_tickets bytes c (inl b) = ap (λ (x : Copy Content ℕ). x.tickets) b.1
no_tickets bytes c (inr (held, d, can, pair, with)) = no_tickets_with held d c with

-- no fault is counted of a count that didn't fall
rose_none : (before now : ℕ) → before ≤ now → RoseBy 0 before now
rose_none before now le = omega (arith, le)

opened_by : {D : Type 0} (states : D → List Device) (counts : D → Counts) (faults : ℕ) (vb : ShownVb D) (c : Copy Content ℕ) → Stands states vb (put_on_disk (begun c)) → c.tickets ≡ [] → faults ≤ (counts vb.store.disk).faults
    → (prepares : List Pending) → c.log.prepares ≡ prepares → IsKnown states counts faults vb (known_by prepares (put_on_disk (begun c)))
opened_by states counts faults vb c stands none le [] e = (inl (record { stands = stands; none_waits = e; tickets = none; deadlines = refl }), rose_none faults (counts vb.store.disk).faults le)
opened_by states counts faults vb c stands none le (p ∷ ps) e = tt

pub opened : {D : Type 0} (states : D → List Device) (counts : D → Counts) (before : List Device) (faults : ℕ) (vb : ShownVb D) → OpensVb states before only_chain 0 0 (Ok vb) → faults ≤ (counts vb.store.disk).faults
    → Opened states counts before faults vb
opened states counts [] faults vb opens le = record { begin = Unknown; begins = refl; is_known = tt }
opened states counts (d ∷ past) faults vb (c, begins, stands) le = record {
  begin = known_by c.log.prepares (put_on_disk (begun c));
  begins = (c, begins, refl);
  is_known = opened_by states counts faults vb c stands (no_tickets d.bytes c begins) le c.log.prepares refl;
}
