use Rattle.std.proofs.Common.{◌≡◌, ◌++◌, length}
use Rattle.xattr_body.specs.Pairs.{pairs_from}
use Rattle.xattr_body.proofs.known.front_pairs.Given as goal

-- those so far and those of the rest are all
abbrev pub invariant-loop-name : goal.invariant-loop-name
invariant-loop-name l = l.pairs.items ++ pairs_from (length l.rest) l.rest ≡ pairs_from (length l.bytes) l.bytes

abbrev pub decreases-loop-name : goal.decreases-loop-name
decreases-loop-name l = length l.rest
