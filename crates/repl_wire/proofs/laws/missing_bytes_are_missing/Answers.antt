use Rattle.repl_wire.proofs.Judged.{missing}
use Rattle.repl_wire.proofs.laws.missing_bytes_are_missing.Goals as goal

pub returns : goal.returns
returns c = missing
