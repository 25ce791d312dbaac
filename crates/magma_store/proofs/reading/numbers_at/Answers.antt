use Rattle.magma_store.specs.Forms.{numbers_form, IsBroken}
use Rattle.magma_store.specs.Fronts.{counts_form}
use Rattle.magma_store.proofs.Leads.{handed, broken_behind}
use Rattle.magma_store.proofs.Parts.{terms_lead, numbers_found}
use Rattle.magma_store.proofs.reading.numbers_at.Goals as goal

pub returns-in_err-promise-clause-broken : goal.returns-in_err-promise-clause-broken
returns-in_err-promise-clause-broken c =
    λ next. handed c.from_residual.result c.in_err-promise.field-0.0 (IsBroken (numbers_form next) c.args.bytes.now) c.from_residual.ensures.1
    (c.in_err-promise.ensures.broken (counts_form next))

pub returns-in_err-incarnation-clause-broken : goal.returns-in_err-incarnation-clause-broken
returns-in_err-incarnation-clause-broken c =
    λ next. handed c.from_residual-in_err-incarnation.result c.in_err-incarnation.field-0.0 (IsBroken (numbers_form next) c.args.bytes.now) c.from_residual-in_err-incarnation.ensures.1
    (broken_behind c.in_err-incarnation.field-0.0
    (terms_lead (counts_form next) c.args.bytes.now c.in_ok-promise.promise c.in_ok-promise.accepted c.in_ok-promise.behind.now c.in_ok-promise.ensures.found)
    (c.in_err-incarnation.ensures.broken next))

pub returns-clause-found : goal.returns-clause-found
returns-clause-found c =
    numbers_found c.args.bytes.now (record { promise = c.in_ok-promise.promise; accepted = c.in_ok-promise.accepted; incarnation = c.in_ok-incarnation.incarnation; length = c.in_ok-incarnation.length; cas = c.in_ok-incarnation.cas }) c.in_ok-promise.behind.now c.in_ok-incarnation.rest.now
    c.in_ok-promise.ensures.found c.in_ok-incarnation.ensures.found
