use Rattle.std.proofs.Common.{ap, subst, sym, arith}
use Rattle.manifest_rules.proofs.Rising.{rising_sorted}
use Rattle.vb_log.specs.Held.{items_size, StandAtKeys}
use Rattle.vb_log.proofs.Weighing.{of_some, some_within, some_taken, stand_taken}
use Rattle.vb_log.proofs.items.Items.remove_collections.Goals as goal

pub remove_collections-requires : goal.remove_collections-requires
remove_collections-requires c = rising_sorted c.args.collections.now c.requires

pub overflow_sub-self : goal.overflow_sub-self
overflow_sub-self c =
    let part = some_within c.self.inside.by_key c.args.collections.now in
    let size = c.self.invariant.0 in
    let view = ap (λ m. items_size (of_some c.args.collections.now m)) c.self.view_is in
    omega (arith, c.size_in-dropped.ensures)

pub invariant_of-self : goal.invariant_of-self
invariant_of-self c =
    let m = c.self.inside.by_key in
    let ids = c.args.collections.now in
    let parts = some_taken m ids in
    let size = c.self.invariant.0 in
    let view = ap (λ m. items_size (of_some ids m)) c.self.view_is in
    let new = ap items_size c.remove_collections.ensures in (
      omega (arith, c.size_in-dropped.ensures),
      subst StandAtKeys (sym c.remove_collections.ensures) (stand_taken m ids c.self.invariant.1),
    )
