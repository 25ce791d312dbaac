use Rattle.std.proofs.Common.{◌∙◌}
use Rattle.xattr_edit.proofs.Gaps.{leads_more, leads_to, leads_all}
use Rattle.xattr_edit.proofs.blanks.blanks_before.Goals as goal

pub returns-then-not-is_blank : goal.returns-then-not-is_blank
returns-then-not-is_blank c = c.split_at.ensures.front ∙ leads_to c.args.text.now c.loop-i.i c.loop-i-test.true c.if-not-is_blank.ensures c.loop-i.invariant

pub loop-i-preserved : goal.loop-i-preserved
loop-i-preserved c = leads_more c.args.text.now c.loop-i.i c.loop-i-test.true c.if-not-is_blank.ensures c.loop-i.invariant

pub returns : goal.returns
returns c = leads_all c.args.text.now c.loop-i.i c.loop-i-test.false c.loop-i.invariant
