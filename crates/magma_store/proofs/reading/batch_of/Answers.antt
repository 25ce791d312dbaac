use Rattle.std.specs.Int.{w32}
use Rattle.std.proofs.Common.{◌+◌, subst}
use Rattle.magma_store.specs.Forms.{field, run, any, all_items, batch_form, IsBroken}
use Rattle.magma_store.specs.Fronts.{PlacesAt}
use Rattle.magma_store.proofs.Leads.{handed, broken_behind, leads_on, run_leads}
use Rattle.magma_store.proofs.Batches.{any_leads, batch_found}
use Rattle.magma_store.proofs.reading.batch_of.Goals as goal

pub returns-in_err-size-clause-broken : goal.returns-in_err-size-clause-broken
returns-in_err-size-clause-broken c =
    handed c.from_residual.result c.in_err-size.field-0.0 (IsBroken batch_form c.args.bytes.now) c.from_residual.ensures.1
    (c.in_err-size.ensures.broken any (λ size. run size (field w32 any (λ count. all_items 0 count))))

pub returns-in_err-tail-clause-broken : goal.returns-in_err-tail-clause-broken
returns-in_err-tail-clause-broken c =
    handed c.from_residual-in_err-tail.result c.in_err-tail.field-0.0 (IsBroken batch_form c.args.bytes.now) c.from_residual-in_err-tail.ensures.1
    (broken_behind c.in_err-tail.field-0.0
    (any_leads (λ size. run size (field w32 any (λ count. all_items 0 count))) c.args.bytes.now c.in_ok-size.size c.in_ok-size.behind_size.now c.in_ok-size.ensures.found)
    (c.in_err-tail.ensures.broken (field w32 any (λ count. all_items 0 count))))

pub returns-in_err-count-clause-broken : goal.returns-in_err-count-clause-broken
returns-in_err-count-clause-broken c =
    handed c.from_residual-in_err-count.result c.in_err-count.field-0.0 (IsBroken batch_form c.args.bytes.now) c.from_residual-in_err-count.ensures.1
    (broken_behind c.in_err-count.field-0.0
    (leads_on
    (any_leads (λ size. run size (field w32 any (λ count. all_items 0 count))) c.args.bytes.now c.in_ok-size.size c.in_ok-size.behind_size.now c.in_ok-size.ensures.found)
    (run_leads c.in_ok-size.size (field w32 any (λ count. all_items 0 count)) c.in_ok-size.behind_size.now c.in_ok-tail.tail.now c.in_ok-tail.behind_tail.now c.in_ok-tail.ensures.found))
    (c.in_err-count.ensures.broken any (λ count. all_items 0 count)))

pub returns-in_err-places-clause-broken : goal.returns-in_err-places-clause-broken
returns-in_err-places-clause-broken c =
    handed c.from_residual-in_err-places.result c.in_err-places.field-0.0 (IsBroken batch_form c.args.bytes.now) c.from_residual-in_err-places.ensures.1
    (broken_behind c.in_err-places.field-0.0
    (leads_on
    (leads_on
    (any_leads (λ size. run size (field w32 any (λ count. all_items 0 count))) c.args.bytes.now c.in_ok-size.size c.in_ok-size.behind_size.now c.in_ok-size.ensures.found)
    (run_leads c.in_ok-size.size (field w32 any (λ count. all_items 0 count)) c.in_ok-size.behind_size.now c.in_ok-tail.tail.now c.in_ok-tail.behind_tail.now c.in_ok-tail.ensures.found))
    (any_leads (λ count. all_items 0 count) c.in_ok-tail.behind_tail.now c.in_ok-count.count c.in_ok-count.rest.now c.in_ok-count.ensures.found))
    c.in_err-places.ensures.broken)

pub returns-clause-found : goal.returns-clause-found
returns-clause-found c =
    batch_found c.args.at c.args.bytes.now c.in_ok-size.size c.in_ok-size.behind_size.now c.in_ok-tail.tail.now c.in_ok-tail.behind_tail.now c.in_ok-count.count c.in_ok-count.rest.now c.in_ok-places.places
    c.in_ok-size.ensures.found c.in_ok-tail.ensures.found c.in_ok-count.ensures.found
    (subst (λ n. PlacesAt (c.args.at + 8 + n) c.in_ok-count.count c.in_ok-count.rest.now c.in_ok-places.places) c.from.ensures c.in_ok-places.ensures.found)
