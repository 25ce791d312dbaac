use Rattle.std.proofs.Common.{None}
use Rattle.subdoc_edit.proofs.Plans.{front_plan}
use Rattle.subdoc_edit.proofs.plan.push_front_at.Goals as goal

pub returns-clause-plan : goal.returns-clause-plan
returns-clause-plan c d trail t new st long array w =
    front_plan c.args.text.now c.args.value.now c.new.result c.in_ok-comma.field-0 d trail t new c.args.at c.args.followed c.args.given c.front_of-gap.result None c.new.ensures c.in_ok-comma.ensures c.front_of-gap.ensures st long array w
