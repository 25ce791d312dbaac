use Rattle.doc_step.proofs.Drawn.{refused_nothing}
use Rattle.doc_step.proofs.laws.refusals_change_nothing.Goals as goal

pub returns : goal.returns
returns c = refused_nothing
