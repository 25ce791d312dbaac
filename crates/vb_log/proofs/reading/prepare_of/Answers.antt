use Rattle.vb_log.specs.declared.limits.TheConstants.{GREATEST_CAS, GREATEST_LEVEL}
use Rattle.vb_log.specs.Layout.{end}
use Rattle.vb_log.specs.Spelling.{key_layout, what_layout, prepare_layout}
use Rattle.vb_log.proofs.Layouts.{leads_on, byte_leads, broken_behind}
use Rattle.vb_log.proofs.Pieces.{handed, key_leads, what_leads}
use Rattle.vb_log.specs.Faults.{IsBroken}
use Rattle.vb_log.proofs.reading.prepare_of.Goals as goal

pub returns-in_err-level-clause-broken : goal.returns-in_err-level-clause-broken
returns-in_err-level-clause-broken c =
    handed c.from_residual.result c.in_err-level.field-0.0 (IsBroken prepare_layout c.args.parts.now) c.from_residual.ensures.1
    (c.in_err-level.ensures.broken (λ level. (key_layout (what_layout GREATEST_CAS end))))

pub returns-in_err-key-clause-broken : goal.returns-in_err-key-clause-broken
returns-in_err-key-clause-broken c =
    handed c.from_residual-in_err-key.result c.in_err-key.field-0.0 (IsBroken prepare_layout c.args.parts.now) c.from_residual-in_err-key.ensures.1
    (broken_behind prepare_layout c.args.parts.now (key_layout (what_layout GREATEST_CAS end)) c.in_ok-level.behind_level.now c.in_err-key.field-0.0
    (byte_leads 1 GREATEST_LEVEL (λ level. (key_layout (what_layout GREATEST_CAS end))) c.args.parts.now c.in_ok-level.level c.in_ok-level.behind_level.now c.in_ok-level.ensures.found)
    (c.in_err-key.ensures.broken (what_layout GREATEST_CAS end)))

pub returns-in_err-what-clause-broken : goal.returns-in_err-what-clause-broken
returns-in_err-what-clause-broken c =
    handed c.from_residual-in_err-what.result c.in_err-what.field-0.0 (IsBroken prepare_layout c.args.parts.now) c.from_residual-in_err-what.ensures.1
    (broken_behind prepare_layout c.args.parts.now (what_layout GREATEST_CAS end) c.in_ok-key.behind_key.now c.in_err-what.field-0.0
    (leads_on prepare_layout c.args.parts.now (key_layout (what_layout GREATEST_CAS end)) c.in_ok-level.behind_level.now (what_layout GREATEST_CAS end) c.in_ok-key.behind_key.now (byte_leads 1 GREATEST_LEVEL (λ level. (key_layout (what_layout GREATEST_CAS end))) c.args.parts.now c.in_ok-level.level c.in_ok-level.behind_level.now c.in_ok-level.ensures.found)
    (key_leads (what_layout GREATEST_CAS end) c.in_ok-level.behind_level.now c.in_ok-key.key c.in_ok-key.behind_key.now c.in_ok-key.ensures.found))
    (c.in_err-what.ensures.broken end))

pub returns-in_err-ended-clause-broken : goal.returns-in_err-ended-clause-broken
returns-in_err-ended-clause-broken c =
    handed c.from_residual-in_err-ended.result c.in_err-ended.field-0.0 (IsBroken prepare_layout c.args.parts.now) c.from_residual-in_err-ended.ensures.1
    (broken_behind prepare_layout c.args.parts.now end c.in_ok-what.rest.now c.in_err-ended.field-0.0
    (leads_on prepare_layout c.args.parts.now (what_layout GREATEST_CAS end) c.in_ok-key.behind_key.now end c.in_ok-what.rest.now (leads_on prepare_layout c.args.parts.now (key_layout (what_layout GREATEST_CAS end)) c.in_ok-level.behind_level.now (what_layout GREATEST_CAS end) c.in_ok-key.behind_key.now (byte_leads 1 GREATEST_LEVEL (λ level. (key_layout (what_layout GREATEST_CAS end))) c.args.parts.now c.in_ok-level.level c.in_ok-level.behind_level.now c.in_ok-level.ensures.found)
    (key_leads (what_layout GREATEST_CAS end) c.in_ok-level.behind_level.now c.in_ok-key.key c.in_ok-key.behind_key.now c.in_ok-key.ensures.found))
    (what_leads GREATEST_CAS end c.in_ok-key.behind_key.now c.in_ok-what.what c.in_ok-what.rest.now c.in_ok-what.ensures.found))
    (c.in_err-ended.ensures.broken))
