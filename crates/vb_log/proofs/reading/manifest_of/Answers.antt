use Rattle.std.proofs.Common.{sym, ◌∙◌, arith}
use Rattle.std.proofs.lemmas.Bool.{false≢true}
use Rattle.doc_model.specs.declared.limits.TheConstants.{MANIFEST_LIMIT}
use Rattle.vb_log.specs.Layout.{as_manifest, end}
use Rattle.vb_log.specs.Spelling.{manifest_layout}
use Rattle.vb_log.specs.Faults.{IsBroken}
use Rattle.vb_log.proofs.Pieces.{handed, sized_refused}
use Rattle.vb_log.proofs.reading.manifest_of.Goals as goal

pub returns-in_err-piece-clause-broken : goal.returns-in_err-piece-clause-broken
returns-in_err-piece-clause-broken c =
    handed c.from_residual.result c.in_err-piece.field-0.0 (IsBroken manifest_layout c.args.parts.now) c.from_residual.ensures.1
    (c.in_err-piece.ensures.broken as_manifest end)

pub returns-then-not-branch-clause-broken : goal.returns-then-not-branch-clause-broken
returns-then-not-branch-clause-broken c =
    sized_refused MANIFEST_LIMIT as_manifest end c.args.parts.now c.in_ok-piece.piece.now c.in_ok-piece.rest.now (omega arith) c.in_ok-piece.ensures.found
    (λ s. false≢true (sym c.if-not-branch.true ∙ c.in_ok-is_manifest.ensures.1 s))
