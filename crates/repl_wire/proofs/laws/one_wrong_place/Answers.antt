use Rattle.repl_wire.proofs.Judged.{one_wrong}
use Rattle.repl_wire.proofs.laws.one_wrong_place.Goals as goal

pub returns : goal.returns
returns c = one_wrong
