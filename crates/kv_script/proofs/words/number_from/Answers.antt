use Rattle.std.proofs.Common.{arith}
use Rattle.kv_script.proofs.Numbers.{too_small}
use Rattle.kv_script.proofs.words.number_from.Goals as goal

pub returns-else-number-least : goal.returns-else-number-least
returns-else-number-least c n q = too_small c.args.least c.args.word.now c.in_ok-number.number c.in_ok-number.ensures (omega arith) n q
