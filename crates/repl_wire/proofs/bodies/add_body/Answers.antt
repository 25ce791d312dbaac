use Rattle.std.specs.Prelude.{◌≡◌, ◌++◌, OnOk}
use Rattle.std.proofs.Common.{sym, subst}
use Rattle.repl_wire.specs.Grammar.{body_bytes}
use Rattle.repl_wire.proofs.bodies.add_body.Goals as goal

pub returns-in-Adopt : goal.returns-in-Adopt
returns-in-Adopt c =
    subst (λ m. OnOk c.add_adopt.result (c.add_adopt.new.out.items ≡ c.args.out.now.items ++ body_bytes m)) (sym c.in-Adopt.is) c.add_adopt.ensures
