use Rattle.std.proofs.Common.{◌≡◌, ◌++◌, length, take, flat_map}
use Rattle.std.specs.Int.{w32, to_be_bytes}
use Rattle.vb_log.specs.Prepares.{waiting_bytes}
use Rattle.vb_log.proofs.pending.add_pending.Given as goal

abbrev pub invariant-loop-prepare : goal.invariant-loop-prepare
invariant-loop-prepare l = l.out.items ≡ l.fn.out.items ++ (to_be_bytes w32 (length l.prepares) ++ flat_map waiting_bytes (take l.prepare-index l.prepares))
