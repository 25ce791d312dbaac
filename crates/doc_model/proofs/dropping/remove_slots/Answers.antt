use Rattle.std.proofs.Common.{take, ◌+◌, get_or}
use Rattle.std.proofs.lemmas.List.Folds.{list_any_more}
use Rattle.std.proofs.Common.{nat_eq}
use Rattle.doc_model.proofs.Freed.{one_less, none_less}
use Rattle.doc_model.proofs.dropping.remove_slots.Goals as goal

pub loop-collection-init : goal.loop-collection-init
loop-collection-init g c = none_less c.args.slots.now.entries

pub loop-collection-preserved : goal.loop-collection-preserved
loop-collection-preserved g c =
    let ids = c.args.collections.now in
    let at = c.loop-collection.collection-index in
    one_less (take at ids) (take (at + 1) ids) (get_or ids at 0) c.args.slots.now.entries c.loop-collection.slots.entries c.remove_slots_of.new.slots.entries
    (λ id. list_any_more (nat_eq id) ids at 0 c.loop-collection-test.true) c.loop-collection.invariant c.remove_slots_of.ensures
