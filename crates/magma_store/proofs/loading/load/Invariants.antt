use Rattle.std.proofs.Common.{◌≡◌, ◌≤◌, ◌^◌, List, ℕ}
use Rattle.magma_store.specs.Counting.{CountsStore}
use Rattle.magma_store.specs.Journal.{IsFile}
use Rattle.magma_store.specs.Taking.{IsSound, IsReadTo}
use Rattle.magma_store.proofs.loading.load.Given as goal

abbrev pub invariant-loop : goal.invariant-loop
invariant-loop g l = record {
  states : g.D.Disk.states l.disk ≡ g.D.Disk.states l.fn.disk;
  counts : CountsStore ⊥ (g.D.Disk.counts l.fn.disk) (g.D.Disk.counts l.disk);
  small : l.loaded.filled ≤ 2 ^ 61;
  sound : IsSound l.loaded;
  read : (file : List ℕ) → IsFile file (g.D.Disk.states l.fn.disk) → IsReadTo file l.loaded;
}
