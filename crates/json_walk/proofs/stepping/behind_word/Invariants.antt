use Rattle.std.proofs.Common.{◌≡◌, length}
use Rattle.json_walk.specs.Stepping.{behind_word}
use Rattle.json_walk.proofs.stepping.behind_word.Given as goal

abbrev pub invariant-loop-rest : goal.invariant-loop-rest
invariant-loop-rest l = behind_word l.rest ≡ behind_word l.fn.bytes

abbrev pub decreases-loop-rest : goal.decreases-loop-rest
decreases-loop-rest l = length l.rest
