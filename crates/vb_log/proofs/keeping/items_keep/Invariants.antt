use Rattle.std.proofs.Common.{drop}
use Rattle.vb_log.specs.Contents.{IsAllowedItem}
use Rattle.vb_log.proofs.Leftover.{AllIf}
use Rattle.vb_log.proofs.keeping.items_keep.Given as goal

abbrev pub invariant-loop-item : goal.invariant-loop-item
invariant-loop-item l = AllIf (IsAllowedItem l.manifest l.bounds) l.items (drop l.item-index l.items)
