use Rattle.std.proofs.Common.{refl}
use Rattle.kv_tool.proofs.laws.input_limit.Goals as goal

pub returns : goal.returns
returns c = refl
