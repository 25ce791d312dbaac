use Rattle.std.proofs.Common.{List, length}
use Rattle.kv_frame.specs.declared.frame.FrameExtra.{FrameExtra}
use Rattle.kv_frame.proofs.ExtraLaws.{Sections}
use Rattle.kv_frame.proofs.judging.first_wrong.Given as goal

-- some framing extras, and then the rest
abbrev pub invariant-loop-rest : goal.invariant-loop-rest
invariant-loop-rest l = (es : List FrameExtra) × Sections l.section es l.rest

abbrev pub decreases-loop-rest : goal.decreases-loop-rest
decreases-loop-rest l = length l.rest
