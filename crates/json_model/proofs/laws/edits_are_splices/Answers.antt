use Rattle.json_model.proofs.Splicing.{trail_around}
use Rattle.json_model.proofs.laws.edits_are_splices.Goals as goal

pub returns : goal.returns
returns c = trail_around
