use Rattle.std.proofs.Common.{◌≡◌, take}
use Rattle.vb_log.specs.Held.{items_size}
use Rattle.vb_log.proofs.Weighing.{of_some}
use Rattle.vb_log.proofs.items.Items.size_in.Given as goal

abbrev pub invariant-loop-collection : goal.invariant-loop-collection
invariant-loop-collection l = l.total ≡ items_size (of_some (take l.collection-index l.collections) l.self-inside.by_key)
