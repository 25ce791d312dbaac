use Rattle.vb_log.specs.Layout.{run, four}
use Rattle.vb_log.specs.Spelling.{sized_layout}
use Rattle.vb_log.specs.Faults.{IsBroken}
use Rattle.vb_log.proofs.Layouts.{number_leads, broken_behind}
use Rattle.vb_log.proofs.Pieces.{handed}
use Rattle.vb_log.proofs.fields.sized_at.Goals as goal

pub returns-in_err-size-clause-broken : goal.returns-in_err-size-clause-broken
returns-in_err-size-clause-broken c =
    λ form next. handed c.from_residual.result c.in_err-size.field-0.0 (IsBroken (sized_layout c.args.most form next) c.args.bytes.now) c.from_residual.ensures.1
    (c.in_err-size.ensures.broken (λ size. run size form next))

pub returns-in_err-piece-clause-broken : goal.returns-in_err-piece-clause-broken
returns-in_err-piece-clause-broken c =
    λ form next. handed c.from_residual-in_err-piece.result c.in_err-piece.field-0.0 (IsBroken (sized_layout c.args.most form next) c.args.bytes.now) c.from_residual-in_err-piece.ensures.1
    (broken_behind (sized_layout c.args.most form next) c.args.bytes.now (run c.in_ok-size.size form next) c.in_ok-size.rest.now c.in_err-piece.field-0.0
    (number_leads four 0 c.args.most (λ size. run size form next) c.args.bytes.now c.in_ok-size.size c.in_ok-size.rest.now c.in_ok-size.ensures.found)
    (c.in_err-piece.ensures.broken form next))
