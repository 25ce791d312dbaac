use Rattle.std.proofs.Common.{ap, subst, sym, arith}
use Rattle.vb_log.specs.Sizes.{item_size}
use Rattle.vb_log.specs.Held.{items_size, StandAtKeys}
use Rattle.vb_log.proofs.Weighing.{size_at, size_remove, stand_remove}
use Rattle.vb_log.proofs.items.Items.remove.Goals as goal

pub weight-requires : goal.weight-requires
weight-requires c =
    let whole = size_at c.self.inside.by_key c.args.key.now in
    let is = ap item_size c.remove-had.ensures.before in
    let size = c.self.invariant.0 in
    omega arith

pub overflow_sub-self : goal.overflow_sub-self
overflow_sub-self c =
    let whole = size_at c.self.inside.by_key c.args.key.now in
    let is = ap item_size c.remove-had.ensures.before in
    let size = c.self.invariant.0 in
    omega (arith, c.weight.ensures)

pub invariant_of-self : goal.invariant_of-self
invariant_of-self c =
    let m = c.self.inside.by_key in
    let key = c.args.key.now in
    let counted = size_remove m key in
    let is = ap item_size c.remove-had.ensures.before in
    let size = c.self.invariant.0 in
    let new = ap items_size c.remove-had.ensures.removed in (
      omega (arith, c.weight.ensures),
      subst StandAtKeys (sym c.remove-had.ensures.removed) (stand_remove m key c.self.invariant.1),
    )
