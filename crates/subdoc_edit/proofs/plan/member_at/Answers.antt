use Rattle.subdoc_edit.proofs.Plans.{member_plan}
use Rattle.subdoc_edit.proofs.plan.member_at.Goals as goal

pub returns-clause-plan : goal.returns-clause-plan
returns-clause-plan c d trail t v name names st long holds content round =
    member_plan c.args.text.now c.args.value.now c.in_ok-before_new.field-0 c.in_ok-behind_new.field-0 d trail t v name names c.args.at c.args.total c.args.around.now c.args.content c.end_of-gap.result c.in_ok-before_new.ensures c.in_ok-behind_new.ensures c.end_of-gap.ensures st long holds content round
