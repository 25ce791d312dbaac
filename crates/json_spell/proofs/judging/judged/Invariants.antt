use Rattle.std.proofs.Common.{◌≡◌, [], length}
use Rattle.json_model.specs.declared.TheConstants.{MOST_DEEP}
use Rattle.json_spell.specs.Machine.{before, verdict}
use Rattle.json_spell.specs.Turns.{state_of}
use Rattle.json_spell.proofs.judging.judged.Given as goal

-- the machine comes to the same from here on
abbrev pub invariant-loop-next : goal.invariant-loop-next
invariant-loop-next l = verdict MOST_DEEP (state_of l.spot) l.rest ≡ verdict MOST_DEEP (before []) l.fn.text

abbrev pub decreases-loop-next : goal.decreases-loop-next
decreases-loop-next l = length l.rest
