use Rattle.std.proofs.Common.{◌≡◌, take, map as list_map}
use Rattle.vb_log.proofs.whole.are_apart.Given as goal

abbrev pub invariant-loop-change : goal.invariant-loop-change
invariant-loop-change l = list_map (λ r. r.now) l.changes.items ≡ take l.change-index l.prepares
