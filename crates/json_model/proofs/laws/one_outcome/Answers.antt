use Rattle.json_model.proofs.Following.{follows_one}
use Rattle.json_model.proofs.laws.one_outcome.Goals as goal

pub returns : goal.returns
returns c = follows_one
