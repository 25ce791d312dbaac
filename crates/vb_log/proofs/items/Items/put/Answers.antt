use Rattle.std.proofs.Common.{ap, subst, sym, arith}
use Rattle.vb_log.specs.Sizes.{item_size}
use Rattle.vb_log.specs.Held.{items_size, StandAtKeys}
use Rattle.vb_log.proofs.Weighing.{size_at, size_insert, stand_insert}
use Rattle.vb_log.proofs.items.Items.put.Goals as goal

pub weight-requires : goal.weight-requires
weight-requires c =
    let whole = size_at c.self.inside.by_key c.args.key.now in
    let is = ap item_size c.in_ok-had.ensures.before in
    let size = c.self.invariant.0 in
    omega arith

pub overflow_sub-self : goal.overflow_sub-self
overflow_sub-self c =
    let whole = size_at c.self.inside.by_key c.args.key.now in
    let is = ap item_size c.in_ok-had.ensures.before in
    let size = c.self.invariant.0 in
    omega (arith, c.weight.ensures)

pub invariant_of-self-2 : goal.invariant_of-self-2
invariant_of-self-2 c =
    let m = c.self.inside.by_key in
    let key = c.args.key.now in
    let counted = size_insert m key c.args.item in
    let is = ap item_size c.in_ok-had.ensures.before in
    let size = c.self.invariant.0 in
    let new = ap items_size c.in_ok-had.ensures.ok in (
      omega (arith, c.weight.ensures, c.size_of-added.ensures),
      subst StandAtKeys (sym c.in_ok-had.ensures.ok) (stand_insert m key c.args.item c.requires.own c.self.invariant.1),
    )
