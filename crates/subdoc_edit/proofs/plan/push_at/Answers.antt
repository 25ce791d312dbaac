use Rattle.std.proofs.Common.{None}
use Rattle.subdoc_edit.proofs.Plans.{push_plan}
use Rattle.subdoc_edit.proofs.plan.push_at.Goals as goal

pub returns-clause-plan : goal.returns-clause-plan
returns-clause-plan c d trail t new st long holds w =
    push_plan c.args.text.now c.args.value.now c.in_ok-comma.field-0 c.new.result d trail t new c.args.at c.args.followed c.args.given c.end_of-gap.result None c.in_ok-comma.ensures c.new.ensures c.end_of-gap.ensures st long holds w
