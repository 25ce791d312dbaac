use Rattle.std.proofs.Common.{Err, drop, option_map, refl, sym, ◌∙◌, ap, subst, arith}
use Rattle.magma_store.specs.Journal.{IsFile, IsNext}
use Rattle.magma_store.specs.Loading.{IsUnloaded}
use Rattle.magma_store.specs.Spots.{AllLead}
use Rattle.magma_store.specs.Taking.{NextIs}
use Rattle.magma_store.proofs.StoreCounts.{counts_none, counts_then}
use Rattle.magma_store.proofs.Takings.{handed, none_lead, read_none, read_all, read_unsized, next_is}
use Rattle.magma_store.proofs.loading.load.Goals as goal

pub loop-init : goal.loop-init
loop-init g c = record {
  states = refl;
  counts = counts_none ⊥ (g.D.Disk.counts c.args.disk.now) (λ f. f);
  small = omega arith;
  sound = record { lead = subst AllLead (sym c.new.ensures) none_lead; numbers = tt };
  read = λ file is. read_none file _ refl c.new.ensures refl;
}

pub returns-in_err-next_record-clause-unloaded : goal.returns-in_err-next_record-clause-unloaded
returns-in_err-next_record-clause-unloaded g c = λ file is.
    let inv = c.loop.invariant in
    let why = c.in_err-next_record.field-0.0 in
    handed c.from_residual.result why (IsUnloaded file) c.from_residual.ensures.1
    (read_unsized file c.loop.loaded why (inv.read file is) c.in_err-next_record.ensures.fault
    (λ place found expected same. c.in_err-next_record.ensures.damaged file place found expected (subst (IsFile file) (sym inv.states) is) (ap Err same)))

pub returns-in-None-clause-loaded : goal.returns-in-None-clause-loaded
returns-in-None-clause-loaded g c = λ file is.
    let inv = c.loop.invariant in
    read_all file c.loop.loaded (inv.read file is)
    (subst (λ o. IsNext (option_map (λ v. v.items) o) (drop c.loop.loaded.filled file)) c.in-None.is (c.in_ok-next_record.ensures.next file (subst (IsFile file) (sym inv.states) is)))

pub returns-in_err-take_next-in-Some-clause-unloaded : goal.returns-in_err-take_next-in-Some-clause-unloaded
returns-in_err-take_next-in-Some-clause-unloaded g c = λ file is.
    let inv = c.loop.invariant in
    let why = c.in_err-take_next-in-Some.field-0.0 in
    let next = subst (λ o. IsNext (option_map (λ v. v.items) o) (drop c.loop.loaded.filled file)) c.in-Some.is (c.in_ok-next_record.ensures.next file (subst (IsFile file) (sym inv.states) is)) in
    let here : NextIs file c.loop.loaded c.as_slice.result.now = subst (NextIs file c.loop.loaded) (sym c.as_slice.ensures.value) (next_is file c.loop.loaded c.in-Some.held.items (inv.read file is) next) in
    handed c.from_residual-in_err-take_next-in-Some.result why (IsUnloaded file) c.from_residual-in_err-take_next-in-Some.ensures.1 (c.in_err-take_next-in-Some.ensures.broken file here)

pub loop-preserved : goal.loop-preserved
loop-preserved g c =
    let inv = c.loop.invariant in
    let counts = g.D.Disk.counts in
    record {
      states = c.in_ok-next_record.ensures.states ∙ inv.states;
      counts = counts_then ⊥ _ ⊥ (counts c.args.disk.now) (counts c.loop.disk) (counts c.next_record.new.disk) (λ f. absurd f) inv.counts c.in_ok-next_record.ensures.counts;
      small = c.in_ok-take_next-in-Some.ensures.small;
      sound = c.in_ok-take_next-in-Some.ensures.sound;
      read = λ file is.
          let next = subst (λ o. IsNext (option_map (λ v. v.items) o) (drop c.loop.loaded.filled file)) c.in-Some.is (c.in_ok-next_record.ensures.next file (subst (IsFile file) (sym inv.states) is)) in
          c.in_ok-take_next-in-Some.ensures.taken file (subst (NextIs file c.loop.loaded) (sym c.as_slice.ensures.value) (next_is file c.loop.loaded c.in-Some.held.items (inv.read file is) next));
    }
