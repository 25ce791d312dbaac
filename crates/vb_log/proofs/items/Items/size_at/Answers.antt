use Rattle.std.specs.Prelude.{◌≤◌}
use Rattle.std.proofs.Common.{ap, arith}
use Rattle.vb_log.specs.Sizes.{size_of, item_size}
use Rattle.vb_log.specs.Held.{items_size}
use Rattle.vb_log.proofs.Weighing.{size_at}
use Rattle.vb_log.proofs.items.Items.size_at.Goals as goal

-- what the key has counts as a part
part : (c : goal.In-Some) → size_of c.in-Some.item.now.key c.in-Some.item.now.what ≤ items_size c.self.inside.by_key
part c =
    let whole = size_at c.self.inside.by_key c.args.key.now in
    let is = ap item_size c.in-Some.ensures in
    omega arith

pub size_of-requires : goal.size_of-requires
size_of-requires c = let h = part c in let is = c.self.invariant.0 in omega arith

pub returns-in-Some-clause-part : goal.returns-in-Some-clause-part
returns-in-Some-clause-part c =
    let whole = size_at c.self.inside.by_key c.args.key.now in
    let is = ap item_size c.in-Some.ensures in
    let view = ap items_size c.self.view_is in
    omega (arith, c.size_of.ensures)
