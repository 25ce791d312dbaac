use Rattle.std.proofs.Common.{◌∙◌}
use Rattle.xattr_edit.proofs.Gaps.{trails_none, trails_more, trails_to, trails_all}
use Rattle.xattr_edit.proofs.blanks.blanks_behind.Goals as goal

pub loop-front-init : goal.loop-front-init
loop-front-init c = trails_none c.args.text.now

pub returns-then-not-is_blank : goal.returns-then-not-is_blank
returns-then-not-is_blank c =
    c.split_at.ensures.back ∙ trails_to c.args.text.now c.loop-front.front.now c.in-len1-up.len_at_least c.if-not-is_blank.ensures c.loop-front.invariant

pub loop-front-preserved : goal.loop-front-preserved
loop-front-preserved c = trails_more c.args.text.now c.loop-front.front.now c.in-len1-up.len_at_least c.if-not-is_blank.ensures c.loop-front.invariant

pub returns : goal.returns
returns c = trails_all c.args.text.now c.loop-front.front.now c.in_default.len_below c.loop-front.invariant
