use Rattle.std.proofs.Common.{◌≡◌, length, take}
use Rattle.kv_frame.specs.Grammar.{section}
use Rattle.kv_frame.proofs.encoding.section_length.Given as goal

-- the length of the framing extras so far
abbrev pub invariant-loop-frame_extra : goal.invariant-loop-frame_extra
invariant-loop-frame_extra l = l.total ≡ length (section (take l.frame_extra-index l.extras))
