use Rattle.std.proofs.Common.{get_or, length, take, drop, ◌-◌, ◌≡◌, sym, subst, arith}
use Rattle.std.proofs.lemmas.List.{drop_more}
use Rattle.manifest_rules.proofs.Rising.{Passing, passes_below, passed_above, rest_is}
use Rattle.manifest_rules.proofs.ids.add_below.Goals as goal

pub returns-then-first-id : goal.returns-then-first-id
returns-then-first-id c =
    let left = c.loop-left.left.now in
    passed_above c.args.id (get_or left 0 0) c.args.ids.now left (drop 1 left) c.args.all.now.items c.loop-left.all.items c.loop-left.invariant (drop_more left 0 0 (omega arith)) c.if-first-id.true

pub loop-left-preserved-in_ok-push : goal.loop-left-preserved-in_ok-push
loop-left-preserved-in_ok-push c =
    let left = c.loop-left.left.now in
    subst (λ l. Passing c.args.id c.args.ids.now l c.args.all.now.items c.push.new.self.items) (sym (rest_is left))
    (passes_below c.args.id (get_or left 0 0) c.args.ids.now left (drop 1 left) c.args.all.now.items c.loop-left.all.items c.push.new.self.items c.loop-left.invariant (drop_more left 0 0 (omega arith)) c.if-first-id-2.true c.in_ok-push.ensures.items)
