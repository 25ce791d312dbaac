use Rattle.repl_wire.proofs.OneMessage.{one_message}
use Rattle.repl_wire.proofs.laws.one_message.Goals as goal

pub returns : goal.returns
returns c = one_message
