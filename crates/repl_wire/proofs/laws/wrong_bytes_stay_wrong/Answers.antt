use Rattle.repl_wire.proofs.Judged.{wrong_stays}
use Rattle.repl_wire.proofs.laws.wrong_bytes_stay_wrong.Goals as goal

pub returns : goal.returns
returns c = wrong_stays
