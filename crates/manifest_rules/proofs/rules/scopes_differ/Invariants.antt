use Rattle.std.proofs.Common.{map, take}
use Rattle.std.specs.BTreeSet.{contains}
use Rattle.std.specs.Cmp.Lexicographic.{slice_cmp}
use Rattle.std.specs.Ordering.{nat_cmp}
use Rattle.manifest_rules.specs.Rules.{same_name}
use Rattle.manifest_rules.proofs.Distinct.{NoneTwice}
use Rattle.manifest_rules.proofs.rules.scopes_differ.Given as goal

abbrev pub invariant-loop-scope : goal.invariant-loop-scope
invariant-loop-scope l = NoneTwice same_name (map (λ x. x.name) (take l.scope-index l.scopes)) (contains (slice_cmp nat_cmp) l.seen)
