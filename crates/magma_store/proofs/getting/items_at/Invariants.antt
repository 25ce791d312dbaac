use Rattle.std.proofs.Common.{◌≡◌, List, take}
use Rattle.std.specs.List.{AllByRecursion}
use Rattle.doc_model.specs.declared.document.Item.{Item}
use Rattle.vb_log.specs.Stored.{IsStorable}
use Rattle.magma_store.specs.Counting.{CountsStore}
use Rattle.magma_store.specs.Gotten.{AllStand}
use Rattle.magma_store.proofs.getting.items_at.Given as goal

abbrev pub invariant-loop-spot : goal.invariant-loop-spot
invariant-loop-spot g l =
    (g.D.Disk.states l.disk ≡ g.D.Disk.states l.fn.disk)
    × CountsStore ⊥ (g.D.Disk.counts l.fn.disk) (g.D.Disk.counts l.disk)
    × AllByRecursion IsStorable l.items.items
    × ((items : List Item) → AllStand l.spots items (g.D.Disk.states l.fn.disk) → l.items.items ≡ take l.spot-index items)
