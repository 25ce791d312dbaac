use Rattle.subdoc_edit.proofs.Edits.{finished}
use Rattle.subdoc_edit.proofs.editing.finish.Goals as goal

pub returns : goal.returns
returns c d trail change plans = finished c.args.text.now c.args.value.now c.in_ok-text.text d trail change c.args.plan c.size_of-size.result plans c.if-plan.false c.size_of-size.ensures c.if-size-gt-TEXT_LIMIT.false c.in_ok-text.ensures
