use Rattle.std.specs.Int.{w8}
use Rattle.magma_store.specs.Forms.{run, between, IsBroken}
use Rattle.magma_store.specs.Fronts.{name_form}
use Rattle.magma_store.proofs.Leads.{wide8, handed, broken_behind, field_leads}
use Rattle.magma_store.proofs.reading.name_at.Goals as goal

pub returns-in_err-size-clause-broken : goal.returns-in_err-size-clause-broken
returns-in_err-size-clause-broken c =
    λ next. handed c.from_residual.result c.in_err-size.field-0.0 (IsBroken (name_form c.args.least next) c.args.bytes.now) c.from_residual.ensures.1
    (c.in_err-size.ensures.broken (λ size. run size next))

pub returns-in_err-piece-clause-broken : goal.returns-in_err-piece-clause-broken
returns-in_err-piece-clause-broken c =
    λ next. handed c.from_residual-in_err-piece.result c.in_err-piece.field-0.0 (IsBroken (name_form c.args.least next) c.args.bytes.now) c.from_residual-in_err-piece.ensures.1
    (broken_behind c.in_err-piece.field-0.0
    (field_leads w8 wide8 (between c.args.least 255) (λ size. run size next) c.args.bytes.now c.in_ok-size.size c.in_ok-size.behind.now c.in_ok-size.ensures.found)
    (c.in_err-piece.ensures.broken next))
