use Rattle.replica_core.specs.Terms.{is_term}
use Rattle.repl_wire.specs.Grammar.{is_length, ack_layout}
use Rattle.repl_wire.specs.Layout.{number, eight, anything}
use Rattle.repl_wire.specs.Reading.{BodyFails}
use Rattle.repl_wire.proofs.Layouts.{handed, body_behind}
use Rattle.repl_wire.proofs.bodies.ack_of.Goals as goal

pub returns-in_err-term-clause-broken : goal.returns-in_err-term-clause-broken
returns-in_err-term-clause-broken c =
    handed c.from_residual.result c.in_err-term.field-0.0 (BodyFails ack_layout c.args.bytes.now) c.from_residual.ensures.1
    (c.in_err-term.ensures.broken (λ term. number eight is_length (λ mem. number eight is_length (λ disk. anything))))

pub returns-in_err-mem-clause-broken : goal.returns-in_err-mem-clause-broken
returns-in_err-mem-clause-broken c =
    handed c.from_residual-in_err-mem.result c.in_err-mem.field-0.0 (BodyFails ack_layout c.args.bytes.now) c.from_residual-in_err-mem.ensures.1
    (body_behind eight is_term (λ term. number eight is_length (λ mem. number eight is_length (λ disk. anything))) c.args.bytes.now c.in_ok-term.term c.in_ok-term.behind_term.now c.in_err-mem.field-0.0 c.in_ok-term.ensures.found
    (c.in_err-mem.ensures.broken (λ mem. number eight is_length (λ disk. anything))))

pub returns-in_err-disk-clause-broken : goal.returns-in_err-disk-clause-broken
returns-in_err-disk-clause-broken c =
    handed c.from_residual-in_err-disk.result c.in_err-disk.field-0.0 (BodyFails ack_layout c.args.bytes.now) c.from_residual-in_err-disk.ensures.1
    (body_behind eight is_term (λ term. number eight is_length (λ mem. number eight is_length (λ disk. anything))) c.args.bytes.now c.in_ok-term.term c.in_ok-term.behind_term.now c.in_err-disk.field-0.0 c.in_ok-term.ensures.found
    (body_behind eight is_length (λ mem. number eight is_length (λ disk. anything)) c.in_ok-term.behind_term.now c.in_ok-mem.mem c.in_ok-mem.behind_mem.now c.in_err-disk.field-0.0 c.in_ok-mem.ensures.found
    (c.in_err-disk.ensures.broken (λ disk. anything))))
