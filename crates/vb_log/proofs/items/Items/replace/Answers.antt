use Rattle.std.specs.Prelude.{◌≡◌, is_some, true, cond}
use Rattle.std.specs.FinMap as map
use Rattle.std.proofs.Common.{◌∙◌, ap, subst, sym, arith}
use Rattle.vb_log.specs.Sizes.{item_size}
use Rattle.vb_log.specs.Held.{items_size, StandAtKeys}
use Rattle.vb_log.proofs.Weighing.{size_at, size_insert, stand_insert}
use Rattle.vb_log.proofs.items.Items.replace.Goals as goal

pub size_of-added-requires : goal.size_of-added-requires
size_of-added-requires c =
    let all = size_insert c.args.self.now c.args.key.now c.args.item in
    let part = size_at c.args.self.now c.args.key.now in
    omega (arith, c.requires.room)

pub weight-requires : goal.weight-requires
weight-requires c =
    let whole = size_at c.self.inside.by_key c.args.key.now in
    let is = ap item_size c.replace-had.ensures.before in
    let size = c.self.invariant.0 in
    omega arith

pub overflow_sub-self : goal.overflow_sub-self
overflow_sub-self c =
    let whole = size_at c.self.inside.by_key c.args.key.now in
    let is = ap item_size c.replace-had.ensures.before in
    let size = c.self.invariant.0 in
    omega (arith, c.weight.ensures)

pub overflow_add-self : goal.overflow_add-self
overflow_add-self c =
    let m = c.self.inside.by_key in
    let all = size_insert m c.args.key.now c.args.item in
    let is = ap item_size c.replace-had.ensures.before in
    let size = c.self.invariant.0 in
    let view = ap (λ n. items_size (map.insert n c.args.key.now c.args.item)) c.self.view_is in
    omega (arith, c.weight.ensures, c.size_of-added.ensures, c.requires.room)

pub invariant_of-self : goal.invariant_of-self
invariant_of-self c =
    let m = c.self.inside.by_key in
    let key = c.args.key.now in
    let has : is_some (map.get m key) ≡ true = ap (λ n. is_some (map.get n key)) c.self.view_is ∙ c.requires.has in
    let new : c.replace-had.new.self ≡ map.insert m key c.args.item = c.replace-had.ensures.replaced ∙ ap (λ b. cond b (map.insert m key c.args.item) m) has in
    let counted = size_insert m key c.args.item in
    let is = ap item_size c.replace-had.ensures.before in
    let size = c.self.invariant.0 in
    let part = size_at m key in
    let sum = ap items_size new in (
      omega (arith, c.weight.ensures, c.size_of-added.ensures),
      subst StandAtKeys (sym new) (stand_insert m key c.args.item c.requires.own c.self.invariant.1),
    )
