use Rattle.std.proofs.Common.{◌≡◌, take}
use Rattle.std.proofs.Common.{map as list_map}
use Rattle.vb_log.specs.declared.entry.Pending.{Pending}
use Rattle.magma_store.proofs.whole.positions_of.Given as goal

abbrev pub invariant-loop-change : goal.invariant-loop-change
invariant-loop-change l = l.numbers.items ≡ list_map (λ (p : Pending). p.position) (take l.change-index l.prepares)
