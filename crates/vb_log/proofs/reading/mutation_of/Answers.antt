use Rattle.vb_log.specs.declared.limits.TheConstants.{GREATEST_CAS}
use Rattle.vb_log.specs.Layout.{end}
use Rattle.vb_log.specs.Spelling.{key_layout, doc_layout}
use Rattle.vb_log.proofs.Layouts.{leads_on, broken_behind}
use Rattle.vb_log.proofs.Pieces.{handed, key_leads, doc_leads}
use Rattle.vb_log.specs.Faults.{IsBroken}
use Rattle.vb_log.proofs.reading.mutation_of.Goals as goal

pub returns-in_err-key-clause-broken : goal.returns-in_err-key-clause-broken
returns-in_err-key-clause-broken c =
    handed c.from_residual.result c.in_err-key.field-0.0 (IsBroken (key_layout (doc_layout GREATEST_CAS end)) c.args.parts.now) c.from_residual.ensures.1
    (c.in_err-key.ensures.broken (doc_layout GREATEST_CAS end))

pub returns-in_err-doc-clause-broken : goal.returns-in_err-doc-clause-broken
returns-in_err-doc-clause-broken c =
    handed c.from_residual-in_err-doc.result c.in_err-doc.field-0.0 (IsBroken (key_layout (doc_layout GREATEST_CAS end)) c.args.parts.now) c.from_residual-in_err-doc.ensures.1
    (broken_behind (key_layout (doc_layout GREATEST_CAS end)) c.args.parts.now (doc_layout GREATEST_CAS end) c.in_ok-key.behind_key.now c.in_err-doc.field-0.0
    (key_leads (doc_layout GREATEST_CAS end) c.args.parts.now c.in_ok-key.key c.in_ok-key.behind_key.now c.in_ok-key.ensures.found)
    (c.in_err-doc.ensures.broken end))

pub returns-in_err-ended-clause-broken : goal.returns-in_err-ended-clause-broken
returns-in_err-ended-clause-broken c =
    handed c.from_residual-in_err-ended.result c.in_err-ended.field-0.0 (IsBroken (key_layout (doc_layout GREATEST_CAS end)) c.args.parts.now) c.from_residual-in_err-ended.ensures.1
    (broken_behind (key_layout (doc_layout GREATEST_CAS end)) c.args.parts.now end c.in_ok-doc.rest.now c.in_err-ended.field-0.0
    (leads_on (key_layout (doc_layout GREATEST_CAS end)) c.args.parts.now (doc_layout GREATEST_CAS end) c.in_ok-key.behind_key.now end c.in_ok-doc.rest.now (key_leads (doc_layout GREATEST_CAS end) c.args.parts.now c.in_ok-key.key c.in_ok-key.behind_key.now c.in_ok-key.ensures.found)
    (doc_leads GREATEST_CAS end c.in_ok-key.behind_key.now c.in_ok-doc.doc c.in_ok-doc.rest.now c.in_ok-doc.ensures.found))
    (c.in_err-ended.ensures.broken))
