use Rattle.magma_store.specs.Forms.{change_form, numbers_form, IsBroken}
use Rattle.magma_store.proofs.Leads.{handed, broken_behind}
use Rattle.magma_store.proofs.TellsChange.{behind_numbers, kind_leads, sets_lead, writes_lead, sets_told, writes_told}
use Rattle.magma_store.proofs.reading.change_of.Goals as goal

pub returns-in_err-kind-clause-broken : goal.returns-in_err-kind-clause-broken
returns-in_err-kind-clause-broken c =
    handed c.from_residual.result c.in_err-kind.field-0.0 (IsBroken change_form c.args.held.now) c.from_residual.ensures.1
    (c.in_err-kind.ensures.broken (λ kind. numbers_form (behind_numbers kind)))

pub returns-in_err-numbers-clause-broken : goal.returns-in_err-numbers-clause-broken
returns-in_err-numbers-clause-broken c =
    handed c.from_residual-in_err-numbers.result c.in_err-numbers.field-0.0 (IsBroken change_form c.args.held.now) c.from_residual-in_err-numbers.ensures.1
    (broken_behind c.in_err-numbers.field-0.0 (kind_leads c.args.held.now c.in_ok-kind.kind c.in_ok-kind.behind.now c.in_ok-kind.ensures.found)
    (c.in_err-numbers.ensures.broken (behind_numbers c.in_ok-kind.kind)))

pub returns-in_err-ended-clause-broken : goal.returns-in_err-ended-clause-broken
returns-in_err-ended-clause-broken c =
    handed c.from_residual-in_err-ended.result c.in_err-ended.field-0.0 (IsBroken change_form c.args.held.now) c.from_residual-in_err-ended.ensures.1
    (broken_behind c.in_err-ended.field-0.0
    (sets_lead c.args.held.now c.in_ok-kind.kind c.in_ok-kind.behind.now c.in_ok-numbers.numbers c.in_ok-numbers.rest.now c.in_ok-kind.ensures.found c.in_ok-numbers.ensures.found c.if-kind-eq-NUMBERS.true)
    c.in_err-ended.ensures.broken)

pub returns-in_err-tail-clause-broken : goal.returns-in_err-tail-clause-broken
returns-in_err-tail-clause-broken c =
    handed c.from_residual-in_err-tail.result c.in_err-tail.field-0.0 (IsBroken change_form c.args.held.now) c.from_residual-in_err-tail.ensures.1
    (broken_behind c.in_err-tail.field-0.0
    (writes_lead c.args.held.now c.in_ok-kind.kind c.in_ok-kind.behind.now c.in_ok-numbers.numbers c.in_ok-numbers.rest.now c.in_ok-kind.ensures.found c.in_ok-numbers.ensures.found c.if-kind-eq-NUMBERS.false)
    c.in_err-tail.ensures.broken)

pub returns-in_ok-ended-clause-found : goal.returns-in_ok-ended-clause-found
returns-in_ok-ended-clause-found c =
    sets_told c.args.at c.args.held.now c.in_ok-kind.kind c.in_ok-kind.behind.now c.in_ok-numbers.numbers c.in_ok-numbers.rest.now
    c.in_ok-kind.ensures.found c.in_ok-numbers.ensures.found c.if-kind-eq-NUMBERS.true c.in_ok-ended.ensures.ok

pub returns-in_ok-tail-clause-found : goal.returns-in_ok-tail-clause-found
returns-in_ok-tail-clause-found c =
    writes_told c.args.at c.args.held.now c.in_ok-kind.kind c.in_ok-kind.behind.now c.in_ok-numbers.numbers c.in_ok-numbers.rest.now c.in_ok-tail.tail c.in_ok-tail.places
    c.in_ok-kind.ensures.found c.in_ok-numbers.ensures.found c.if-kind-eq-NUMBERS.false c.in_ok-tail.ensures.found
