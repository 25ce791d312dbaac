use Rattle.std.specs.Int.{w64}
use Rattle.magma_store.specs.Forms.{field, any, accepted_within, IsBroken}
use Rattle.magma_store.specs.Fronts.{terms_form}
use Rattle.magma_store.proofs.Leads.{handed, broken_behind}
use Rattle.magma_store.proofs.Parts.{any_leads, terms_found}
use Rattle.magma_store.proofs.reading.terms_at.Goals as goal

pub returns-in_err-promise-clause-broken : goal.returns-in_err-promise-clause-broken
returns-in_err-promise-clause-broken c =
    λ next. handed c.from_residual.result c.in_err-promise.field-0.0 (IsBroken (terms_form next) c.args.bytes.now) c.from_residual.ensures.1
    (c.in_err-promise.ensures.broken any (λ promise. field w64 (accepted_within promise) (λ accepted. next)))

pub returns-in_err-accepted-clause-broken : goal.returns-in_err-accepted-clause-broken
returns-in_err-accepted-clause-broken c =
    λ next. handed c.from_residual-in_err-accepted.result c.in_err-accepted.field-0.0 (IsBroken (terms_form next) c.args.bytes.now) c.from_residual-in_err-accepted.ensures.1
    (broken_behind c.in_err-accepted.field-0.0
    (any_leads (λ promise. field w64 (accepted_within promise) (λ accepted. next)) c.args.bytes.now c.in_ok-promise.promise c.in_ok-promise.behind.now c.in_ok-promise.ensures.found)
    (c.in_err-accepted.ensures.broken (λ accepted. next)))

pub returns-clause-found : goal.returns-clause-found
returns-clause-found c =
    terms_found c.args.bytes.now c.in_ok-promise.promise c.in_ok-accepted.accepted c.in_ok-promise.behind.now c.in_ok-accepted.rest.now c.in_ok-promise.ensures.found c.in_ok-accepted.ensures.found
