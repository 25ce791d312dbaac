use Rattle.std.specs.Prelude.{◌+◌}
use Rattle.vb_log.specs.declared.limits.TheConstants.{GREATEST_LEVEL}
use Rattle.vb_log.specs.Faults.{IsBroken}
use Rattle.vb_log.specs.Layout.{byte, eight}
use Rattle.vb_log.specs.Prepares.{waiting_layout}
use Rattle.vb_log.specs.Spelling.{key_layout, what_layout}
use Rattle.vb_log.proofs.Layouts.{leads_on, byte_leads, number_leads, broken_behind}
use Rattle.vb_log.proofs.Pieces.{handed, key_leads}
use Rattle.vb_log.proofs.pending.waiting_at.Goals as goal

pub returns-in_err-position-clause-broken : goal.returns-in_err-position-clause-broken
returns-in_err-position-clause-broken c =
    λ next. handed c.from_residual.result c.in_err-position.field-0.0 (IsBroken (waiting_layout c.args.bounds c.args.before next) c.args.bytes.now) c.from_residual.ensures.1
    (c.in_err-position.ensures.broken (λ position. byte 1 GREATEST_LEVEL (λ level. key_layout (what_layout c.args.bounds.cas (next position)))))

pub returns-in_err-level-clause-broken : goal.returns-in_err-level-clause-broken
returns-in_err-level-clause-broken c =
    λ next. handed c.from_residual-in_err-level.result c.in_err-level.field-0.0 (IsBroken (waiting_layout c.args.bounds c.args.before next) c.args.bytes.now) c.from_residual-in_err-level.ensures.1
    (broken_behind (waiting_layout c.args.bounds c.args.before next) c.args.bytes.now (byte 1 GREATEST_LEVEL (λ level. key_layout (what_layout c.args.bounds.cas (next c.in_ok-position.position)))) c.in_ok-position.behind_position.now c.in_err-level.field-0.0
    (number_leads eight (c.args.before + 1) c.args.bounds.last (λ position. byte 1 GREATEST_LEVEL (λ level. key_layout (what_layout c.args.bounds.cas (next position)))) c.args.bytes.now c.in_ok-position.position c.in_ok-position.behind_position.now c.in_ok-position.ensures.found)
    (c.in_err-level.ensures.broken (λ level. key_layout (what_layout c.args.bounds.cas (next c.in_ok-position.position)))))

pub returns-in_err-key-clause-broken : goal.returns-in_err-key-clause-broken
returns-in_err-key-clause-broken c =
    λ next. handed c.from_residual-in_err-key.result c.in_err-key.field-0.0 (IsBroken (waiting_layout c.args.bounds c.args.before next) c.args.bytes.now) c.from_residual-in_err-key.ensures.1
    (let position = c.in_ok-position.position in
    let change = what_layout c.args.bounds.cas (next position) in
    broken_behind (waiting_layout c.args.bounds c.args.before next) c.args.bytes.now (key_layout change) c.in_ok-level.behind_level.now c.in_err-key.field-0.0
    (leads_on (waiting_layout c.args.bounds c.args.before next) c.args.bytes.now (byte 1 GREATEST_LEVEL (λ level. key_layout change)) c.in_ok-position.behind_position.now (key_layout change) c.in_ok-level.behind_level.now
    (number_leads eight (c.args.before + 1) c.args.bounds.last (λ position. byte 1 GREATEST_LEVEL (λ level. key_layout (what_layout c.args.bounds.cas (next position)))) c.args.bytes.now position c.in_ok-position.behind_position.now c.in_ok-position.ensures.found)
    (byte_leads 1 GREATEST_LEVEL (λ level. key_layout change) c.in_ok-position.behind_position.now c.in_ok-level.level c.in_ok-level.behind_level.now c.in_ok-level.ensures.found))
    (c.in_err-key.ensures.broken change))

pub returns-in_err-what-clause-broken : goal.returns-in_err-what-clause-broken
returns-in_err-what-clause-broken c =
    λ next. handed c.from_residual-in_err-what.result c.in_err-what.field-0.0 (IsBroken (waiting_layout c.args.bounds c.args.before next) c.args.bytes.now) c.from_residual-in_err-what.ensures.1
    (let position = c.in_ok-position.position in
    let change = what_layout c.args.bounds.cas (next position) in
    broken_behind (waiting_layout c.args.bounds c.args.before next) c.args.bytes.now change c.in_ok-key.behind_key.now c.in_err-what.field-0.0
    (leads_on (waiting_layout c.args.bounds c.args.before next) c.args.bytes.now (key_layout change) c.in_ok-level.behind_level.now change c.in_ok-key.behind_key.now
    (leads_on (waiting_layout c.args.bounds c.args.before next) c.args.bytes.now (byte 1 GREATEST_LEVEL (λ level. key_layout change)) c.in_ok-position.behind_position.now (key_layout change) c.in_ok-level.behind_level.now
    (number_leads eight (c.args.before + 1) c.args.bounds.last (λ position. byte 1 GREATEST_LEVEL (λ level. key_layout (what_layout c.args.bounds.cas (next position)))) c.args.bytes.now position c.in_ok-position.behind_position.now c.in_ok-position.ensures.found)
    (byte_leads 1 GREATEST_LEVEL (λ level. key_layout change) c.in_ok-position.behind_position.now c.in_ok-level.level c.in_ok-level.behind_level.now c.in_ok-level.ensures.found))
    (key_leads change c.in_ok-level.behind_level.now c.in_ok-key.key c.in_ok-key.behind_key.now c.in_ok-key.ensures.found))
    (c.in_err-what.ensures.broken (next position)))
