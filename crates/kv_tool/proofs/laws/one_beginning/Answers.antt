use Rattle.kv_tool.proofs.Beginning.{one_beginning}
use Rattle.kv_tool.proofs.laws.one_beginning.Goals as goal

pub returns : goal.returns
returns c = one_beginning
