use Rattle.vb_log.specs.declared.limits.TheConstants.{GREATEST_CAS, GREATEST_POSITION}
use Rattle.vb_log.specs.Contents.{body_layout, content_layout}
use Rattle.vb_log.specs.Faults.{IsBroken}
use Rattle.vb_log.specs.Layout.{number, eight}
use Rattle.vb_log.proofs.Layouts.{leads_on, number_leads, broken_behind}
use Rattle.vb_log.proofs.Pieces.{handed}
use Rattle.vb_log.proofs.spelt_content.parts_of.Goals as goal

pub returns-in_err-last-clause-broken : goal.returns-in_err-last-clause-broken
returns-in_err-last-clause-broken c =
    handed c.from_residual.result c.in_err-last.field-0.0 (IsBroken content_layout c.args.bytes.now) c.from_residual.ensures.1
    (c.in_err-last.ensures.broken (λ last. number eight 0 GREATEST_CAS (λ cas. body_layout (record { last = last; cas = cas }))))

pub returns-in_err-cas-clause-broken : goal.returns-in_err-cas-clause-broken
returns-in_err-cas-clause-broken c =
    let last = c.in_ok-last.last in
    handed c.from_residual-in_err-cas.result c.in_err-cas.field-0.0 (IsBroken content_layout c.args.bytes.now) c.from_residual-in_err-cas.ensures.1
    (broken_behind content_layout c.args.bytes.now (number eight 0 GREATEST_CAS (λ cas. body_layout (record { last = last; cas = cas }))) c.in_ok-last.behind_last.now c.in_err-cas.field-0.0
    (number_leads eight 0 GREATEST_POSITION (λ last. number eight 0 GREATEST_CAS (λ cas. body_layout (record { last = last; cas = cas }))) c.args.bytes.now last c.in_ok-last.behind_last.now c.in_ok-last.ensures.found)
    (c.in_err-cas.ensures.broken (λ cas. body_layout (record { last = last; cas = cas }))))

pub returns-in_err-body-clause-broken : goal.returns-in_err-body-clause-broken
returns-in_err-body-clause-broken c =
    let last = c.in_ok-last.last in
    let cas = c.in_ok-cas.cas in
    handed c.from_residual-in_err-body.result c.in_err-body.field-0.0 (IsBroken content_layout c.args.bytes.now) c.from_residual-in_err-body.ensures.1
    (broken_behind content_layout c.args.bytes.now (body_layout (record { last = last; cas = cas })) c.in_ok-cas.rest.now c.in_err-body.field-0.0
    (leads_on content_layout c.args.bytes.now (number eight 0 GREATEST_CAS (λ cas. body_layout (record { last = last; cas = cas }))) c.in_ok-last.behind_last.now (body_layout (record { last = last; cas = cas })) c.in_ok-cas.rest.now
    (number_leads eight 0 GREATEST_POSITION (λ last. number eight 0 GREATEST_CAS (λ cas. body_layout (record { last = last; cas = cas }))) c.args.bytes.now last c.in_ok-last.behind_last.now c.in_ok-last.ensures.found)
    (number_leads eight 0 GREATEST_CAS (λ cas. body_layout (record { last = last; cas = cas })) c.in_ok-last.behind_last.now cas c.in_ok-cas.rest.now c.in_ok-cas.ensures.found))
    c.in_err-body.ensures.broken)
