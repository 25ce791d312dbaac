use Rattle.std.proofs.Common.{length}
use Rattle.std.specs.BTreeSet.{contains}
use Rattle.std.specs.Cmp.Lexicographic.{slice_cmp}
use Rattle.std.specs.Ordering.{nat_cmp}
use Rattle.xattr_body.proofs.Going.{Reading}
use Rattle.xattr_body.proofs.reading.read_pairs.Given as goal

-- the pairs up to the rest are read
abbrev pub invariant-loop-rest : goal.invariant-loop-rest
invariant-loop-rest l = Reading l.behind l.rest l.pairs.items (contains (slice_cmp nat_cmp) l.seen)

abbrev pub decreases-loop-rest : goal.decreases-loop-rest
decreases-loop-rest l = length l.rest
