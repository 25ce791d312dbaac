use Rattle.vb_log.specs.Layout.{as_value}
use Rattle.vb_log.specs.Spelling.{attributes_layout, value_layout, doc_layout}
use Rattle.vb_log.specs.Faults.{IsBroken}
use Rattle.vb_log.proofs.Layouts.{leads_on, broken_behind}
use Rattle.vb_log.proofs.Pieces.{handed, head_leads, attributes_leads}
use Rattle.vb_log.proofs.documents.doc_at.Goals as goal

pub returns-in_err-head-clause-broken : goal.returns-in_err-head-clause-broken
returns-in_err-head-clause-broken c =
    λ next. handed c.from_residual.result c.in_err-head.field-0.0 (IsBroken (doc_layout c.args.most next) c.args.bytes.now) c.from_residual.ensures.1
    (c.in_err-head.ensures.broken (attributes_layout (value_layout next)))

pub returns-in_err-section-clause-broken : goal.returns-in_err-section-clause-broken
returns-in_err-section-clause-broken c =
    λ next. handed c.from_residual-in_err-section.result c.in_err-section.field-0.0 (IsBroken (doc_layout c.args.most next) c.args.bytes.now) c.from_residual-in_err-section.ensures.1
    (broken_behind (doc_layout c.args.most next) c.args.bytes.now (attributes_layout (value_layout next)) c.in_ok-head.behind_head.now c.in_err-section.field-0.0
    (head_leads c.args.most (attributes_layout (value_layout next)) c.args.bytes.now c.in_ok-head.head c.in_ok-head.behind_head.now c.in_ok-head.ensures.found)
    (c.in_err-section.ensures.broken (value_layout next)))

pub returns-in_err-piece-clause-broken : goal.returns-in_err-piece-clause-broken
returns-in_err-piece-clause-broken c =
    λ next. handed c.from_residual-in_err-piece.result c.in_err-piece.field-0.0 (IsBroken (doc_layout c.args.most next) c.args.bytes.now) c.from_residual-in_err-piece.ensures.1
    (broken_behind (doc_layout c.args.most next) c.args.bytes.now (value_layout next) c.in_ok-section.behind_section.now c.in_err-piece.field-0.0
    (leads_on (doc_layout c.args.most next) c.args.bytes.now (attributes_layout (value_layout next)) c.in_ok-head.behind_head.now (value_layout next) c.in_ok-section.behind_section.now (head_leads c.args.most (attributes_layout (value_layout next)) c.args.bytes.now c.in_ok-head.head c.in_ok-head.behind_head.now c.in_ok-head.ensures.found)
    (attributes_leads (value_layout next) c.in_ok-head.behind_head.now c.in_ok-section.section.now c.in_ok-section.behind_section.now c.in_ok-section.ensures.found))
    (c.in_err-piece.ensures.broken as_value next))
