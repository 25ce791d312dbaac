use Rattle.replica_core.specs.Terms.{is_term}
use Rattle.repl_wire.specs.Grammar.{is_accepted, is_length, is_any, rejoin_layout}
use Rattle.repl_wire.specs.Layout.{Layout, number, eight, anything}
use Rattle.repl_wire.specs.Reading.{BodyFails}
use Rattle.repl_wire.proofs.Layouts.{handed, body_behind}
use Rattle.repl_wire.proofs.bodies.rejoin_of.Goals as goal

abbrev last_part : Layout
last_part = number eight is_any (λ incarnation. anything)

abbrev length_part : Layout
length_part = number eight is_length (λ len. last_part)

abbrev accepted_part : Layout
accepted_part = number eight is_accepted (λ accepted. length_part)

pub returns-in_err-term-clause-broken : goal.returns-in_err-term-clause-broken
returns-in_err-term-clause-broken c =
    handed c.from_residual.result c.in_err-term.field-0.0 (BodyFails rejoin_layout c.args.bytes.now) c.from_residual.ensures.1
    (c.in_err-term.ensures.broken (λ term. accepted_part))

pub returns-in_err-accepted-clause-broken : goal.returns-in_err-accepted-clause-broken
returns-in_err-accepted-clause-broken c =
    handed c.from_residual-in_err-accepted.result c.in_err-accepted.field-0.0 (BodyFails rejoin_layout c.args.bytes.now) c.from_residual-in_err-accepted.ensures.1
    (body_behind eight is_term (λ term. accepted_part) c.args.bytes.now c.in_ok-term.term c.in_ok-term.behind_term.now c.in_err-accepted.field-0.0 c.in_ok-term.ensures.found
    (c.in_err-accepted.ensures.broken (λ accepted. length_part)))

pub returns-in_err-length-clause-broken : goal.returns-in_err-length-clause-broken
returns-in_err-length-clause-broken c =
    handed c.from_residual-in_err-length.result c.in_err-length.field-0.0 (BodyFails rejoin_layout c.args.bytes.now) c.from_residual-in_err-length.ensures.1
    (body_behind eight is_term (λ term. accepted_part) c.args.bytes.now c.in_ok-term.term c.in_ok-term.behind_term.now c.in_err-length.field-0.0 c.in_ok-term.ensures.found
    (body_behind eight is_accepted (λ accepted. length_part) c.in_ok-term.behind_term.now c.in_ok-accepted.accepted c.in_ok-accepted.behind_accepted.now c.in_err-length.field-0.0 c.in_ok-accepted.ensures.found
    (c.in_err-length.ensures.broken (λ len. last_part))))
