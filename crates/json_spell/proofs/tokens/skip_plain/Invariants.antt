use Rattle.std.proofs.Common.{◌≡◌, ◌≤◌, length}
use Rattle.json_spell.specs.declared.tokens.Mode.TheVariants as modes
use Rattle.json_spell.specs.Tokens.{run}
use Rattle.json_spell.proofs.tokens.skip_plain.Given as goal

-- what is left is read to where all is
abbrev pub invariant-loop-rest : goal.invariant-loop-rest
invariant-loop-rest l = record { read : run modes.Inside l.rest ≡ run modes.Inside l.fn.bytes; within : length l.rest ≤ length l.fn.bytes }

abbrev pub decreases-loop-rest : goal.decreases-loop-rest
decreases-loop-rest l = length l.rest
