use Rattle.copy_memory.proofs.Begun.{ToldTo}
use Rattle.copy_memory.proofs.beginning.other_places.Given as goal

-- the other places so far are told
abbrev pub invariant-loop-place : goal.invariant-loop-place
invariant-loop-place l = ToldTo l.own l.chain.names l.others.items l.place
