use Rattle.subdoc_edit.proofs.Plans.{put_plan}
use Rattle.subdoc_edit.proofs.plan.put_at.Goals as goal

pub returns-clause-plan : goal.returns-clause-plan
returns-clause-plan c d trail t v st long content =
    put_plan c.args.text.now c.args.value.now c.new.result c.new-2.result d trail t v c.args.at c.args.followed c.args.content c.value_end.result c.new.ensures c.new-2.ensures c.requires.bare c.value_end.ensures.found st long content
