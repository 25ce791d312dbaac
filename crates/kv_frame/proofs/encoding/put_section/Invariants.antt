use Rattle.std.proofs.Common.{◌≡◌, ◌++◌, take}
use Rattle.kv_frame.specs.Grammar.{section}
use Rattle.kv_frame.proofs.encoding.put_section.Given as goal

-- the framing extras so far are appended
abbrev pub invariant-loop-frame_extra : goal.invariant-loop-frame_extra
invariant-loop-frame_extra l = l.out.items ≡ l.fn.out.items ++ section (take l.frame_extra-index l.extras)
