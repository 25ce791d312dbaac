use Rattle.std.proofs.Common.{nat_cmp, cond, true, ap, ◌∙◌, sym}
use Rattle.std.specs.BTreeSet.{contains}
use Rattle.std.specs.Cmp.{unsigned_ties}
use Rattle.manifest_rules.proofs.Distinct.{next_id_twice, next_id_seen}
use Rattle.manifest_rules.proofs.rules.ids_differ.Goals as goal

pub returns-then-not-branch : goal.returns-then-not-branch
returns-then-not-branch c = next_id_twice c.args.ids.now c.loop-id.id-index (contains nat_cmp c.loop-id.seen) c.in_ok-insert.field-0 c.loop-id.invariant c.loop-id-test.true c.in_ok-insert.ensures.added c.if-not-branch.true

pub loop-id-preserved : goal.loop-id-preserved
loop-id-preserved c =
    next_id_seen c.args.ids.now c.loop-id.id-index (contains nat_cmp c.loop-id.seen) (contains nat_cmp c.insert.new.self) c.in_ok-insert.field-0 c.loop-id.invariant c.loop-id-test.true c.in_ok-insert.ensures.added c.if-not-branch.false
    (λ q. c.in_ok-insert.ensures.updates.0 q ∙ ap (λ b. cond b true (contains nat_cmp c.loop-id.seen q)) (sym (unsigned_ties _ q)))
