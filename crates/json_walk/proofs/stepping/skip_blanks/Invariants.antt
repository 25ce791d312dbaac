use Rattle.std.proofs.Common.{◌≡◌, length}
use Rattle.json_spell.specs.Tokens.{behind_gap}
use Rattle.json_walk.proofs.stepping.skip_blanks.Given as goal

abbrev pub invariant-loop-rest : goal.invariant-loop-rest
invariant-loop-rest l = behind_gap l.rest ≡ behind_gap l.fn.bytes

abbrev pub decreases-loop-rest : goal.decreases-loop-rest
decreases-loop-rest l = length l.rest
