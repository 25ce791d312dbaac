use Rattle.std.proofs.Common.{◌≡◌, ◌-◌, ◌^◌, min, length, take}
use Rattle.xattr_body.specs.Section.{pairs_bytes}
use Rattle.xattr_body.proofs.writing.pairs_size.Given as goal

-- the bytes of the pairs so far are counted
abbrev pub invariant-loop-pair : goal.invariant-loop-pair
invariant-loop-pair l = l.size ≡ min (length (pairs_bytes (take l.pair-index l.pairs))) (2 ^ 64 - 1)
