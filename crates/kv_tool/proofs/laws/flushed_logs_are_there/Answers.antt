use Rattle.kv_tool.proofs.Beginning.{flushed_there}
use Rattle.kv_tool.proofs.laws.flushed_logs_are_there.Goals as goal

pub returns : goal.returns
returns c = flushed_there
