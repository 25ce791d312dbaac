use Rattle.std.proofs.Common.{length, sym, rules, arith}
use Rattle.std.proofs.lemmas.List.Sums.{position_or_len_is}
use Rattle.manifest_rules.specs.Paths.{is_dot}
use Rattle.manifest_rules.proofs.paths.first_dot.Goals as goal

pub returns-then-byte-eq46-clause-value : goal.returns-then-byte-eq46-clause-value
returns-then-byte-eq46-clause-value c = sym (position_or_len_is is_dot c.args.path.now c.loop-at.at 0 (omega arith) c.loop-at.invariant (λ _. search rules))

pub returns-clause-value : goal.returns-clause-value
returns-clause-value c = sym (position_or_len_is is_dot c.args.path.now (length c.args.path.now) 0 (omega arith) (λ k h. c.loop-at.invariant k (omega arith)) (λ h. absurd (omega arith)))
