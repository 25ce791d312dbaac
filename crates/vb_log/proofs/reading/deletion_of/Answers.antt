use Rattle.vb_log.specs.declared.limits.TheConstants.{GREATEST_CAS}
use Rattle.vb_log.specs.Layout.{end}
use Rattle.vb_log.specs.Spelling.{key_layout, cas_layout}
use Rattle.vb_log.proofs.Layouts.{leads_on, broken_behind}
use Rattle.vb_log.proofs.Pieces.{handed, key_leads, cas_leads}
use Rattle.vb_log.specs.Faults.{IsBroken}
use Rattle.vb_log.proofs.reading.deletion_of.Goals as goal

pub returns-in_err-key-clause-broken : goal.returns-in_err-key-clause-broken
returns-in_err-key-clause-broken c =
    handed c.from_residual.result c.in_err-key.field-0.0 (IsBroken (key_layout (cas_layout GREATEST_CAS end)) c.args.parts.now) c.from_residual.ensures.1
    (c.in_err-key.ensures.broken (cas_layout GREATEST_CAS end))

pub returns-in_err-cas-clause-broken : goal.returns-in_err-cas-clause-broken
returns-in_err-cas-clause-broken c =
    handed c.from_residual-in_err-cas.result c.in_err-cas.field-0.0 (IsBroken (key_layout (cas_layout GREATEST_CAS end)) c.args.parts.now) c.from_residual-in_err-cas.ensures.1
    (broken_behind (key_layout (cas_layout GREATEST_CAS end)) c.args.parts.now (cas_layout GREATEST_CAS end) c.in_ok-key.behind_key.now c.in_err-cas.field-0.0
    (key_leads (cas_layout GREATEST_CAS end) c.args.parts.now c.in_ok-key.key c.in_ok-key.behind_key.now c.in_ok-key.ensures.found)
    (c.in_err-cas.ensures.broken end))

pub returns-in_err-ended-clause-broken : goal.returns-in_err-ended-clause-broken
returns-in_err-ended-clause-broken c =
    handed c.from_residual-in_err-ended.result c.in_err-ended.field-0.0 (IsBroken (key_layout (cas_layout GREATEST_CAS end)) c.args.parts.now) c.from_residual-in_err-ended.ensures.1
    (broken_behind (key_layout (cas_layout GREATEST_CAS end)) c.args.parts.now end c.in_ok-cas.rest.now c.in_err-ended.field-0.0
    (leads_on (key_layout (cas_layout GREATEST_CAS end)) c.args.parts.now (cas_layout GREATEST_CAS end) c.in_ok-key.behind_key.now end c.in_ok-cas.rest.now (key_leads (cas_layout GREATEST_CAS end) c.args.parts.now c.in_ok-key.key c.in_ok-key.behind_key.now c.in_ok-key.ensures.found)
    (cas_leads GREATEST_CAS end c.in_ok-key.behind_key.now c.in_ok-cas.cas c.in_ok-cas.rest.now c.in_ok-cas.ensures.found))
    (c.in_err-ended.ensures.broken))
