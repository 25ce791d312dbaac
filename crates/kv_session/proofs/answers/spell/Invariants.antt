use Rattle.std.proofs.Common.{◌≡◌, take}
use Rattle.std.specs.List.{flat_map}
use Rattle.std.specs.Int.{w16, to_be_bytes}
use Rattle.kv_session.proofs.answers.spell.Given as goal

-- the bytes of the codes so far
abbrev pub invariant-loop-code : goal.invariant-loop-code
invariant-loop-code l = l.bytes.items ≡ flat_map (to_be_bytes w16) (take l.code-index l.codes)
