-- What two calls count together.
use Rattle.std.proofs.Common.{ℕ, refl, ◌∙◌, arith}
use Rattle.magma_disk.specs.Counting.{Counts, Climbs, CountsRead, CountsCall}
use Rattle.magma_store.specs.Counting.{CountsStore}

climbs_on : (a b c : ℕ) → Climbs a b → Climbs b c → Climbs a c
climbs_on a b c first second = record { no_lower = omega arith; no_higher = omega arith }

-- a call that was done, and another
pub calls_on : {F G : Type 0} (a b c : Counts) → CountsCall F a b → CountsCall G b c → CountsCall G a c
calls_on {F} {G} a b c first second = record {
  faults = record {
    climbs = climbs_on a.faults b.faults c.faults first.faults.climbs second.faults.climbs;
    cause = λ failed. let rose = second.faults.cause failed in let climbs = first.faults.climbs in omega arith;
  };
  reads = second.reads ∙ first.reads;
  plans = second.plans ∙ first.plans;
}

-- a read that was done
pub read_counts : {F : Type 0} (a b : Counts) → CountsRead F a b → CountsStore F a b
read_counts {F} a b read = record {
  faults = read.faults.climbs;
  cause = read.faults.cause;
  reads = read.reads;
  plans = read.plans;
}

-- a call that reads nothing
pub call_counts : {F : Type 0} (a b : Counts) → CountsCall F a b → CountsStore F a b
call_counts {F} a b call = record {
  faults = call.faults.climbs;
  cause = call.faults.cause;
  reads = let same = call.reads in record { no_lower = omega arith; no_higher = omega arith };
  plans = call.plans;
}

-- one after another
pub counts_on : {F G : Type 0} (a b c : Counts) → CountsStore F a b → CountsStore G b c → CountsStore G a c
counts_on {F} {G} a b c first second = record {
  faults = climbs_on a.faults b.faults c.faults first.faults second.faults;
  cause = λ failed. let rose = second.cause failed in let climbs = first.faults in omega arith;
  reads = climbs_on a.reads b.reads c.reads first.reads second.reads;
  plans = second.plans ∙ first.plans;
}

-- nothing was called
pub counts_none : {F : Type 0} (a : Counts) → (F → ⊥) → CountsStore F a a
counts_none {F} a never = record {
  faults = record { no_lower = omega arith; no_higher = omega arith };
  cause = λ failed. absurd (never failed);
  reads = record { no_lower = omega arith; no_higher = omega arith };
  plans = refl;
}

-- the same where it is said to fail in fewer cases
pub counts_fewer : {F G : Type 0} (a b : Counts) → (G → F) → CountsStore F a b → CountsStore G a b
counts_fewer {F} {G} a b only counts = record {
  faults = counts.faults;
  cause = λ failed. counts.cause (only failed);
  reads = counts.reads;
  plans = counts.plans;
}
