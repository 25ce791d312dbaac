use Rattle.std.proofs.Common.{◌≡◌, ◌<◌, length, IfSome, None}
use Rattle.subdoc_path.specs.Matching.{matches}
use Rattle.subdoc_path.proofs.keys.spells.Given as goal

abbrev pub invariant-loop-rest : goal.invariant-loop-rest
invariant-loop-rest l = record { same : matches l.waiting l.rest l.left ≡ matches None l.fn.inner l.fn.name; waits : IfSome l.waiting (λ high. high < 0xdc00) }

abbrev pub decreases-loop-rest : goal.decreases-loop-rest
decreases-loop-rest l = length l.rest
