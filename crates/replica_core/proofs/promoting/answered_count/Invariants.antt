use Rattle.durability_core.proofs.Counts.{CountedTo}
use Rattle.replica_core.specs.Promotion.{has_answered}
use Rattle.replica_core.proofs.promoting.answered_count.Given as goal

-- the places so far are counted
abbrev pub invariant-loop-place : goal.invariant-loop-place
invariant-loop-place l =
    CountedTo (has_answered l.term l.answers) l.chain.names l.count l.place
