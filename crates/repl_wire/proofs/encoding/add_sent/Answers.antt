use Rattle.std.specs.Prelude.{length}
use Rattle.std.proofs.Common.{ap, arith}
use Rattle.std.proofs.lemmas.List.{length-append}
use Rattle.repl_wire.specs.Grammar.{body_bytes}
use Rattle.repl_wire.proofs.Measured.{body_short}
use Rattle.repl_wire.proofs.encoding.add_sent.Goals as goal

pub overflow_cast-head : goal.overflow_cast-head
overflow_cast-head c =
    let short = body_short c.args.sent.now.message c.requires.message in
    omega (arith, ap length c.in_ok-add_body.ensures, ap length c.new-body.ensures.items, length-append c.new-body.result.items (body_bytes c.args.sent.now.message))
