use Rattle.std.proofs.Common.{length}
use Rattle.kv_frame.proofs.ExtraLaws.{Sections}
use Rattle.kv_frame.proofs.framing.read_framing.Given as goal

-- the framing extras so far, and then the rest
abbrev pub invariant-loop-rest : goal.invariant-loop-rest
invariant-loop-rest l = Sections l.bytes l.extras l.rest

abbrev pub decreases-loop-rest : goal.decreases-loop-rest
decreases-loop-rest l = length l.rest
