use Rattle.std.proofs.Common.{None}
use Rattle.subdoc_edit.proofs.Plans.{insert_plan}
use Rattle.subdoc_edit.proofs.plan.insert_at.Goals as goal

pub returns-clause-plan : goal.returns-clause-plan
returns-clause-plan c d trail ps k whole new st few i long w =
    insert_plan c.args.text.now c.args.value.now c.new.result c.in_ok-comma.field-0 d trail ps k whole new c.args.at c.args.followed c.args.given None c.new.ensures c.in_ok-comma.ensures st few i long w
