use Rattle.std.proofs.Common.{◌≢◌, ℕ, ◌<◌, get_or}
use Rattle.xattr_body.proofs.judging.has_no_zero.Given as goal

-- no byte so far is 00
abbrev pub invariant-loop-byte : goal.invariant-loop-byte
invariant-loop-byte l = (k : ℕ) → k < l.byte-index → get_or l.bytes k 0 ≢ 0
