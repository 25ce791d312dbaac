use Rattle.std.specs.Int.{w8}
use Rattle.std.proofs.Common.{◌-◌, ℕ, length, subst}
use Rattle.magma_store.specs.Forms.{Form, end, field, between, made_form, IsBroken}
use Rattle.magma_store.specs.Fronts.{KeptAt}
use Rattle.magma_store.proofs.Leads.{wide8, handed, broken_behind, leads_on, field_leads}
use Rattle.magma_store.proofs.Parts.{chain_leads}
use Rattle.magma_store.proofs.reading.made_of.Goals as goal

abbrev place_form : ℕ → Form
place_form count = field w8 (between 0 (count - 1)) (λ place. end)

pub returns-in_err-chain-clause-broken : goal.returns-in_err-chain-clause-broken
returns-in_err-chain-clause-broken c =
    handed c.from_residual.result c.in_err-chain.field-0.0 (IsBroken made_form c.args.held.now) c.from_residual.ensures.1
    (c.in_err-chain.ensures.broken place_form)

pub returns-in_err-place-clause-broken : goal.returns-in_err-place-clause-broken
returns-in_err-place-clause-broken c =
    handed c.from_residual-in_err-place.result c.in_err-place.field-0.0 (IsBroken made_form c.args.held.now) c.from_residual-in_err-place.ensures.1
    (broken_behind c.in_err-place.field-0.0
    (chain_leads place_form c.args.held.now c.in_ok-chain.chain c.in_ok-chain.behind.now c.in_ok-chain.ensures.found)
    (subst (λ n. IsBroken (place_form n) c.in_ok-chain.behind.now c.in_err-place.field-0.0) c.len.ensures (c.in_err-place.ensures.broken (λ place. end))))

pub returns-in_err-ended-clause-broken : goal.returns-in_err-ended-clause-broken
returns-in_err-ended-clause-broken c =
    handed c.from_residual-in_err-ended.result c.in_err-ended.field-0.0 (IsBroken made_form c.args.held.now) c.from_residual-in_err-ended.ensures.1
    (broken_behind c.in_err-ended.field-0.0
    (leads_on
    (chain_leads place_form c.args.held.now c.in_ok-chain.chain c.in_ok-chain.behind.now c.in_ok-chain.ensures.found)
    (field_leads w8 wide8 (between 0 (length c.in_ok-chain.chain.names - 1)) (λ place. end) c.in_ok-chain.behind.now c.in_ok-place.place c.in_ok-place.rest.now
    (subst (λ n. KeptAt w8 (between 0 (n - 1)) c.in_ok-chain.behind.now c.in_ok-place.place c.in_ok-place.rest.now) c.len.ensures c.in_ok-place.ensures.found)))
    c.in_err-ended.ensures.broken)
