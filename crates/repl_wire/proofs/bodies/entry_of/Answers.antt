use Rattle.replica_core.specs.Terms.{is_term}
use Rattle.repl_wire.specs.Grammar.{is_position, entry_layout}
use Rattle.repl_wire.specs.Layout.{number, eight, an_entry}
use Rattle.repl_wire.specs.Reading.{BodyFails}
use Rattle.repl_wire.proofs.Layouts.{handed, body_behind}
use Rattle.repl_wire.proofs.bodies.entry_of.Goals as goal

pub returns-in_err-term-clause-broken : goal.returns-in_err-term-clause-broken
returns-in_err-term-clause-broken c =
    handed c.from_residual.result c.in_err-term.field-0.0 (BodyFails entry_layout c.args.bytes.now) c.from_residual.ensures.1
    (c.in_err-term.ensures.broken (λ term. number eight is_position (λ position. an_entry)))

pub returns-in_err-position-clause-broken : goal.returns-in_err-position-clause-broken
returns-in_err-position-clause-broken c =
    handed c.from_residual-in_err-position.result c.in_err-position.field-0.0 (BodyFails entry_layout c.args.bytes.now) c.from_residual-in_err-position.ensures.1
    (body_behind eight is_term (λ term. number eight is_position (λ position. an_entry)) c.args.bytes.now c.in_ok-term.term c.in_ok-term.behind_term.now c.in_err-position.field-0.0 c.in_ok-term.ensures.found
    (c.in_err-position.ensures.broken (λ position. an_entry)))

pub returns-in_err-entry-clause-broken : goal.returns-in_err-entry-clause-broken
returns-in_err-entry-clause-broken c =
    handed c.from_residual-in_err-entry.result c.in_err-entry.field-0.0 (BodyFails entry_layout c.args.bytes.now) c.from_residual-in_err-entry.ensures.1
    (body_behind eight is_term (λ term. number eight is_position (λ position. an_entry)) c.args.bytes.now c.in_ok-term.term c.in_ok-term.behind_term.now c.in_err-entry.field-0.0 c.in_ok-term.ensures.found
    (body_behind eight is_position (λ position. an_entry) c.in_ok-term.behind_term.now c.in_ok-position.position c.in_ok-position.rest.now c.in_err-entry.field-0.0 c.in_ok-position.ensures.found
    c.in_err-entry.ensures.broken))
