use Rattle.std.specs.Prelude.{refl}
use Rattle.replica_core.specs.Terms.{is_term}
use Rattle.repl_wire.specs.Grammar.{is_any, adopt_layout}
use Rattle.repl_wire.specs.Layout.{number, eight, a_content}
use Rattle.repl_wire.specs.Reading.{BodyFails}
use Rattle.repl_wire.proofs.Layouts.{handed, body_behind}
use Rattle.repl_wire.proofs.bodies.adopt_of.Goals as goal

pub returns-in_err-term-clause-broken : goal.returns-in_err-term-clause-broken
returns-in_err-term-clause-broken c =
    handed c.from_residual.result c.in_err-term.field-0.0 (BodyFails adopt_layout c.args.bytes.now) c.from_residual.ensures.1
    (c.in_err-term.ensures.broken (λ term. number eight is_any (λ incarnation. a_content)))

pub returns-in_err-content-clause-broken : goal.returns-in_err-content-clause-broken
returns-in_err-content-clause-broken c =
    handed c.from_residual-in_err-content.result c.in_err-content.field-0.0 (BodyFails adopt_layout c.args.bytes.now) c.from_residual-in_err-content.ensures.1
    (body_behind eight is_term (λ term. number eight is_any (λ incarnation. a_content)) c.args.bytes.now c.in_ok-term.term c.in_ok-term.behind_term.now c.in_err-content.field-0.0 c.in_ok-term.ensures.found
    (body_behind eight is_any (λ incarnation. a_content) c.in_ok-term.behind_term.now c.number_at-incarnation.result.0 c.number_at-incarnation.result.1.now c.in_err-content.field-0.0 (record { number = c.number_at-incarnation.ensures.found; passes = refl })
    c.in_err-content.ensures.broken))
