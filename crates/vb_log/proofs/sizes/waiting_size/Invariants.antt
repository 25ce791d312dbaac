use Rattle.std.proofs.Common.{◌≡◌, take}
use Rattle.std.specs.List.{sum_by}
use Rattle.vb_log.specs.Held.{pending_weight}
use Rattle.vb_log.proofs.sizes.waiting_size.Given as goal

abbrev pub invariant-loop-change : goal.invariant-loop-change
invariant-loop-change l = l.total ≡ sum_by pending_weight (take l.change-index l.changes)
