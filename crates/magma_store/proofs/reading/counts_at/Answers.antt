use Rattle.std.specs.Int.{w64}
use Rattle.magma_store.specs.Forms.{field, any, IsBroken}
use Rattle.magma_store.specs.Fronts.{counts_form}
use Rattle.magma_store.proofs.Leads.{handed, broken_behind, leads_on}
use Rattle.magma_store.proofs.Parts.{any_leads, counts_found}
use Rattle.magma_store.proofs.reading.counts_at.Goals as goal

pub returns-in_err-incarnation-clause-broken : goal.returns-in_err-incarnation-clause-broken
returns-in_err-incarnation-clause-broken c =
    λ next. handed c.from_residual.result c.in_err-incarnation.field-0.0 (IsBroken (counts_form next) c.args.bytes.now) c.from_residual.ensures.1
    (c.in_err-incarnation.ensures.broken any (λ incarnation. field w64 any (λ log. field w64 any (λ cas. next))))

pub returns-in_err-length-clause-broken : goal.returns-in_err-length-clause-broken
returns-in_err-length-clause-broken c =
    λ next. handed c.from_residual-in_err-length.result c.in_err-length.field-0.0 (IsBroken (counts_form next) c.args.bytes.now) c.from_residual-in_err-length.ensures.1
    (broken_behind c.in_err-length.field-0.0
    (any_leads (λ incarnation. field w64 any (λ log. field w64 any (λ cas. next))) c.args.bytes.now c.in_ok-incarnation.incarnation c.in_ok-incarnation.behind_incarnation.now c.in_ok-incarnation.ensures.found)
    (c.in_err-length.ensures.broken any (λ log. field w64 any (λ cas. next))))

pub returns-in_err-cas-clause-broken : goal.returns-in_err-cas-clause-broken
returns-in_err-cas-clause-broken c =
    λ next. handed c.from_residual-in_err-cas.result c.in_err-cas.field-0.0 (IsBroken (counts_form next) c.args.bytes.now) c.from_residual-in_err-cas.ensures.1
    (broken_behind c.in_err-cas.field-0.0
    (leads_on
    (any_leads (λ incarnation. field w64 any (λ log. field w64 any (λ cas. next))) c.args.bytes.now c.in_ok-incarnation.incarnation c.in_ok-incarnation.behind_incarnation.now c.in_ok-incarnation.ensures.found)
    (any_leads (λ log. field w64 any (λ cas. next)) c.in_ok-incarnation.behind_incarnation.now c.in_ok-length.length c.in_ok-length.behind_length.now c.in_ok-length.ensures.found))
    (c.in_err-cas.ensures.broken any (λ cas. next)))

pub returns-clause-found : goal.returns-clause-found
returns-clause-found c =
    counts_found c.args.bytes.now c.in_ok-incarnation.incarnation c.in_ok-length.length c.in_ok-cas.cas c.in_ok-incarnation.behind_incarnation.now c.in_ok-length.behind_length.now c.in_ok-cas.rest.now
    c.in_ok-incarnation.ensures.found c.in_ok-length.ensures.found c.in_ok-cas.ensures.found
