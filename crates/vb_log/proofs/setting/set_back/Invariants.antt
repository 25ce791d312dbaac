use Rattle.std.specs.Prelude.{reverse, length}
use Rattle.std.specs.FinMap as map
use Rattle.doc_model.specs.Keys.{key_cmp}
use Rattle.doc_model.specs.declared.document.Item.{Item}
use Rattle.vb_log.specs.Joining.{AreNoted}
use Rattle.vb_log.proofs.setting.set_back.Given as goal

-- what is left is noted of what stands now, and leads back to the same as all notes
abbrev pub invariant-loop-key : goal.invariant-loop-key
invariant-loop-key l =
    ((before : map.FinMap key_cmp Item) × AreNoted before (reverse l.left.items) l.items)
    × ((before : map.FinMap key_cmp Item) → AreNoted before (reverse l.fn.notes.items) l.fn.items → AreNoted before (reverse l.left.items) l.items)

abbrev pub decreases-loop-key : goal.decreases-loop-key
decreases-loop-key l = length l.left.items
