use Rattle.std.proofs.Common.{◌≡◌, ℕ, ◌<◌, false, get_or}
use Rattle.manifest_rules.specs.Paths.{is_dot}
use Rattle.manifest_rules.proofs.paths.first_dot.Given as goal

abbrev pub invariant-loop-at : goal.invariant-loop-at
invariant-loop-at l = (k : ℕ) → k < l.at → is_dot (get_or l.path k 0) ≡ false
