use Rattle.std.proofs.Common.{nat_cmp, cond, true, ap, ◌∙◌, sym}
use Rattle.std.specs.BTreeSet.{contains}
use Rattle.std.specs.Cmp.Lexicographic.{slice_cmp, nat_list_eq_equiv, texts_ties}
use Rattle.manifest_rules.specs.Rules.{same_name}
use Rattle.manifest_rules.proofs.Distinct.{next_twice, next_seen}
use Rattle.manifest_rules.proofs.rules.collections_differ.Goals as goal

pub returns-then-not-branch : goal.returns-then-not-branch
returns-then-not-branch c =
    next_twice same_name nat_list_eq_equiv.symm (λ x. x.name) c.args.collections.now c.loop-collection.collection-index c.collection-item.result c.in_ok-copy.field-0 (contains (slice_cmp nat_cmp) c.loop-collection.seen) c.in_ok-insert.field-0
    c.loop-collection.invariant c.loop-collection-test.true c.collection-item.is c.in_ok-copy.ensures c.in_ok-insert.ensures.added c.if-not-branch.true

pub loop-collection-preserved : goal.loop-collection-preserved
loop-collection-preserved c =
    let key = c.in_ok-copy.field-0 in
    next_seen same_name nat_list_eq_equiv.symm (λ x. x.name) c.args.collections.now c.loop-collection.collection-index c.collection-item.result key (contains (slice_cmp nat_cmp) c.loop-collection.seen) (contains (slice_cmp nat_cmp) c.insert.new.self) c.in_ok-insert.field-0
    c.loop-collection.invariant c.loop-collection-test.true c.collection-item.is c.in_ok-copy.ensures c.in_ok-insert.ensures.added c.if-not-branch.false
    (λ q. c.in_ok-insert.ensures.updates.0 q ∙ ap (λ b. cond b true (contains (slice_cmp nat_cmp) c.loop-collection.seen q)) (sym (texts_ties key q)))
