use Rattle.std.proofs.Common.{◌≡◌, take, filter, nat_lt}
use Rattle.magma_store.specs.declared.spot.Spot.{Spot}
use Rattle.magma_store.proofs.getting.those_behind.Given as goal

abbrev pub invariant-loop-spot : goal.invariant-loop-spot
invariant-loop-spot l = l.found.items ≡ filter (λ (s : Spot). nat_lt l.seqno s.seqno) (take l.spot-index l.all)
