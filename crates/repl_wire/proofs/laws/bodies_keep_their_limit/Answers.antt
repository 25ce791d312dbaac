use Rattle.repl_wire.proofs.Measured.{body_short}
use Rattle.repl_wire.proofs.laws.bodies_keep_their_limit.Goals as goal

pub returns : goal.returns
returns c = body_short
