use Rattle.std.proofs.Common.{map, take}
use Rattle.std.specs.BTreeSet.{contains}
use Rattle.std.specs.Cmp.Lexicographic.{slice_cmp}
use Rattle.std.specs.Ordering.{nat_cmp}
use Rattle.manifest_rules.specs.Rules.{same_name}
use Rattle.manifest_rules.proofs.Distinct.{NoneTwice}
use Rattle.manifest_rules.proofs.rules.collections_differ.Given as goal

abbrev pub invariant-loop-collection : goal.invariant-loop-collection
invariant-loop-collection l = NoneTwice same_name (map (λ x. x.name) (take l.collection-index l.collections)) (contains (slice_cmp nat_cmp) l.seen)
