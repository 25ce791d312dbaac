use Rattle.std.proofs.Common.{◌≡◌, ◌++◌, take}
use Rattle.xattr_body.specs.Section.{pairs_bytes}
use Rattle.xattr_body.proofs.writing.add_pairs.Given as goal

-- the pairs so far are added
abbrev pub invariant-loop-pair : goal.invariant-loop-pair
invariant-loop-pair l = l.out.items ≡ l.fn.out.items ++ pairs_bytes (take l.pair-index l.pairs)
