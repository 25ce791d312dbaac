use Rattle.std.proofs.Common.{◌≡◌, take}
use Rattle.std.specs.List.{flat_map}
use Rattle.vb_log.specs.Settling.{mark_for}
use Rattle.vb_log.proofs.settling.marks_for.Given as goal

-- those of the keys so far that need a mark have one
abbrev pub invariant-loop-key : goal.invariant-loop-key
invariant-loop-key l = l.marks.items ≡ flat_map (mark_for l.items l.manifest) (take l.key-index l.keys)
