use Rattle.std.specs.FinMap as map
use Rattle.std.proofs.Common.{◌∙◌, ap, sym, subst, arith}
use Rattle.vb_log.proofs.Together.{SetSome, none_in, none_set, one_set, all_set, next_fits, with_none}
use Rattle.vb_log.proofs.Weighing.{size_none}
use Rattle.vb_log.proofs.items.Items.from_vec.Goals as goal

pub loop-item-init : goal.loop-item-init
loop-item-init c = subst (SetSome map.empty c.args.items.items c.args.items.items) (sym c.new-made.ensures) (none_set map.empty c.args.items.items)

pub put-requires-clause-room : goal.put-requires-clause-room
put-requires-clause-room c =
    let none = size_none in
    next_fits map.empty c.args.items.items c.loop-item.left.items c.pop.new.self.items c.in-Some.item c.loop-item.made c.loop-item.invariant c.in-Some.ensures.items (omega (arith, c.requires))

pub loop-item-preserved : goal.loop-item-preserved
loop-item-preserved c =
    one_set map.empty c.args.items.items c.loop-item.left.items c.pop.new.self.items c.in-Some.item c.loop-item.made c.put.new.self c.loop-item.invariant c.in-Some.ensures.items
    (c.in_ok-put.ensures.ok ∙ ap (λ k. map.insert c.loop-item.made k c.in-Some.item) c.in_ok-key.ensures)

pub returns : goal.returns
returns c =
    let none = none_in c.loop-item.left.items (sym c.loop-item.left.ok.0 ∙ c.in_default.ensures.cases.0) in
    all_set map.empty c.args.items.items c.loop-item.made (subst (λ l. SetSome map.empty c.args.items.items l c.loop-item.made) none c.loop-item.invariant) ∙ with_none c.args.items.items
