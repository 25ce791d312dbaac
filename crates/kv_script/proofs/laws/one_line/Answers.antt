use Rattle.kv_script.proofs.Same.{one_line}
use Rattle.kv_script.proofs.laws.one_line.Goals as goal

pub returns : goal.returns
returns c = one_line
