use Rattle.std.proofs.Common.{nat_eq, take}
use Rattle.std.specs.BTreeSet.{contains}
use Rattle.std.specs.Ordering.{nat_cmp}
use Rattle.manifest_rules.proofs.Distinct.{NoneTwice}
use Rattle.manifest_rules.proofs.rules.ids_differ.Given as goal

abbrev pub invariant-loop-id : goal.invariant-loop-id
invariant-loop-id l = NoneTwice nat_eq (take l.id-index l.ids) (contains nat_cmp l.seen)
