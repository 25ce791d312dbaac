-- The counts of calls one after another.
use Rattle.std.proofs.Common.{◌≡◌, ℕ, ◌-◌, ◌^◌, ◌≤◌, max, refl, ◌∙◌, arith}
use Rattle.kv_edge.specs.Edge.{Rose}
use Rattle.magma_disk.specs.Counting.{Counts, Climbs, CountsCall}
use Rattle.magma_store.specs.Counting.{CountsStore}

climbs_none : (a : ℕ) → Climbs a a
climbs_none a = record { no_lower = omega arith; no_higher = omega arith }

climbs_same : (a b : ℕ) → b ≡ a → Climbs a b
climbs_same a b is = record { no_lower = omega arith; no_higher = omega arith }

climbs_then : (a b c : ℕ) → Climbs a b → Climbs b c → Climbs a c
climbs_then a b c first second =
    let p : a ≤ b = first.no_lower in
    let q : b ≤ max a (2 ^ 64 - 1) = first.no_higher in
    let r : b ≤ c = second.no_lower in
    let s : c ≤ max b (2 ^ 64 - 1) = second.no_higher in
    record { no_lower = omega arith; no_higher = omega arith }

rose_later : (a b c : ℕ) → a ≤ b → Rose b c → Rose a c
rose_later a b c low rose = omega arith

-- no call
pub counts_none : (failed : Type 0) (a : Counts) → (failed → ⊥) → CountsStore failed a a
counts_none failed a not =
    record { faults = climbs_none a.faults; cause = λ f. absurd (not f); reads = climbs_none a.reads; plans = refl }

-- calls of which the last one failed, where any did
pub counts_then : (done failed both : Type 0) (a b c : Counts) → (both → failed) → CountsStore done a b → CountsStore failed b c → CountsStore both a c
counts_then done failed both a b c to first second = record {
  faults = climbs_then a.faults b.faults c.faults first.faults second.faults;
  cause = λ f. rose_later a.faults b.faults c.faults first.faults.no_lower (second.cause (to f));
  reads = climbs_then a.reads b.reads c.reads first.reads second.reads;
  plans = second.plans ∙ first.plans;
}

-- the same counts, of a call that failed no more often
pub counts_as : (failed now : Type 0) (a b : Counts) → (now → failed) → CountsStore failed a b → CountsStore now a b
counts_as failed now a b to h = record { faults = h.faults; cause = λ f. h.cause (to f); reads = h.reads; plans = h.plans }

-- one call of the disk that isn't a read
pub counts_call : (failed : Type 0) (a b : Counts) → CountsCall failed a b → CountsStore failed a b
counts_call failed a b h =
    record { faults = h.faults.climbs; cause = h.faults.cause; reads = climbs_same a.reads b.reads h.reads; plans = h.plans }
