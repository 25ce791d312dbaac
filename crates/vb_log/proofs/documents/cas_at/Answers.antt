use Rattle.vb_log.specs.Spelling.{cas_layout}
use Rattle.vb_log.specs.Faults.{IsBroken}
use Rattle.vb_log.proofs.Pieces.{handed}
use Rattle.vb_log.proofs.documents.cas_at.Goals as goal

pub returns-in_err-cas-clause-broken : goal.returns-in_err-cas-clause-broken
returns-in_err-cas-clause-broken c =
    λ next. handed c.from_residual.result c.in_err-cas.field-0.0 (IsBroken (cas_layout c.args.most next) c.args.bytes.now) c.from_residual.ensures.1
    (c.in_err-cas.ensures.broken (λ cas. next))
