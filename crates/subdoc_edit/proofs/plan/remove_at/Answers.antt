use Rattle.std.proofs.Common.{None}
use Rattle.subdoc_edit.proofs.Plans.{remove_plan}
use Rattle.subdoc_edit.proofs.plan.remove_at.Goals as goal

pub returns-clause-plan : goal.returns-clause-plan
returns-clause-plan c d trail shape ps k st few i =
    remove_plan c.args.text.now c.args.value.now c.new.result c.new-2.result d trail shape ps k c.args.whole c.args.at c.cut_of-span.result None c.new.ensures c.new-2.ensures c.cut_of-span.ensures st few i
