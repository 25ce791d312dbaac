use Rattle.repl_wire.proofs.Judged.{found}
use Rattle.repl_wire.proofs.decoding.decode_link.Goals as goal

pub returns-clause-only : goal.returns-clause-only
returns-clause-only c = found c.args.bytes.now c.decoded.result c.decoded.ensures
