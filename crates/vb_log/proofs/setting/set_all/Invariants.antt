use Rattle.std.specs.Prelude.{reverse, length}
use Rattle.vb_log.specs.Joining.{AreNoted}
use Rattle.vb_log.proofs.Together.{SetSome}
use Rattle.vb_log.proofs.setting.set_all.Given as goal

-- what isn't left is set, and each setting is noted
abbrev pub invariant-loop-item : goal.invariant-loop-item
invariant-loop-item l = AreNoted l.fn.items (reverse l.notes.items) l.items × SetSome l.fn.items l.fn.new.items l.left.items l.items

abbrev pub decreases-loop-item : goal.decreases-loop-item
decreases-loop-item l = length l.left.items
