use Rattle.std.proofs.Common.{sym, ◌∙◌, arith}
use Rattle.std.proofs.lemmas.Bool.{false≢true}
use Rattle.vb_log.specs.declared.limits.TheConstants.{SECTION_LIMIT}
use Rattle.vb_log.specs.Layout.{as_section}
use Rattle.vb_log.specs.Spelling.{attributes_layout}
use Rattle.vb_log.specs.Faults.{IsBroken}
use Rattle.vb_log.proofs.Pieces.{handed, sized_refused}
use Rattle.vb_log.proofs.documents.attributes_at.Goals as goal

pub returns-in_err-section-clause-broken : goal.returns-in_err-section-clause-broken
returns-in_err-section-clause-broken c =
    λ next. handed c.from_residual.result c.in_err-section.field-0.0 (IsBroken (attributes_layout next) c.args.bytes.now) c.from_residual.ensures.1
    (c.in_err-section.ensures.broken as_section next)

pub returns-else-branch-clause-broken : goal.returns-else-branch-clause-broken
returns-else-branch-clause-broken c =
    λ next. sized_refused SECTION_LIMIT as_section next c.args.bytes.now c.in_ok-section.section.now c.in_ok-section.rest.now (omega arith) c.in_ok-section.ensures.found
    (λ s. false≢true (sym c.if-branch.false ∙ c.in_ok-is_section.ensures.1 s))
