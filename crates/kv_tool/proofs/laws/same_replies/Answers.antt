use Rattle.kv_tool.proofs.Same.{same_served}
use Rattle.kv_tool.proofs.laws.same_replies.Goals as goal

pub returns : goal.returns
returns c = same_served
