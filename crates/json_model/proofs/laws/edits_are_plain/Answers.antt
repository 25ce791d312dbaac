use Rattle.json_model.specs.Moves.{changed}
use Rattle.json_model.specs.PlainMoves.{plain_changed}
use Rattle.json_model.proofs.PlainLaws.{value_changed, value_at_trail}
use Rattle.json_model.proofs.laws.edits_are_plain.Goals as goal

pub returns : goal.returns
returns c = λ trail change t. value_at_trail trail (changed change) (plain_changed change) (value_changed change) t
