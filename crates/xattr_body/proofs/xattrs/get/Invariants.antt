use Rattle.std.proofs.Common.{◌≡◌, drop}
use Rattle.xattr_body.specs.Edits.{value_of}
use Rattle.xattr_body.proofs.xattrs.get.Given as goal

-- what is sought isn't among the pairs so far
abbrev pub invariant-loop-pair : goal.invariant-loop-pair
invariant-loop-pair l = value_of l.name l.xattrs ≡ value_of l.name (drop l.pair-index l.xattrs)
