use Rattle.std.proofs.Common.{◌≡◌, ◌∷◌, [], ◌++◌, ◌+◌, sym, subst}
use Rattle.magma_store.specs.Forms.{all_items, IsBroken}
use Rattle.magma_store.proofs.Leads.{handed}
use Rattle.magma_store.proofs.Batches.{PlacesRead, places_begin, left_fits, places_step, places_broken, places_ended, places_all}
use Rattle.magma_store.proofs.reading.places_of.Goals as goal

pub overflow_sub-offset : goal.overflow_sub-offset
overflow_sub-offset c = left_fits c.args.at c.args.count c.loop-done.done c.args.bytes.now c.loop-done.places c.loop-done.left.now c.loop-done.invariant

pub loop-done-init : goal.loop-done-init
loop-done-init c = subst (λ l. PlacesRead c.args.at c.args.count 0 c.args.bytes.now l c.args.bytes.now) (sym c.new-places.ensures) (places_begin c.args.at c.args.count c.args.bytes.now)

pub returns-in_err-place-clause-broken : goal.returns-in_err-place-clause-broken
returns-in_err-place-clause-broken c =
    handed c.from_residual.result c.in_err-place.field-0.0 (IsBroken (all_items 0 c.args.count) c.args.bytes.now) c.from_residual.ensures.1
    (places_broken c.args.at c.args.count c.loop-done.done c.args.bytes.now c.loop-done.places c.loop-done.left.now c.in_err-place.field-0.0 c.loop-done.invariant c.loop-done-test.true c.in_err-place.ensures.broken)

pub loop-done-preserved : goal.loop-done-preserved
loop-done-preserved c =
    let place = c.in_ok-place.place in
    let pushed : c.push.new.self ≡ c.loop-done.places ++ place ∷ [] = c.in_ok-push.ensures.ok in
    subst (λ l. PlacesRead c.args.at c.args.count (c.loop-done.done + 1) c.args.bytes.now l c.in_ok-place.behind.now) (sym pushed)
    (places_step c.args.at c.args.count c.loop-done.done c.args.bytes.now c.loop-done.places c.loop-done.left.now place c.in_ok-place.behind.now c.loop-done.invariant c.loop-done-test.true c.in_ok-place.ensures.found)

pub returns-in_err-ended-clause-broken : goal.returns-in_err-ended-clause-broken
returns-in_err-ended-clause-broken c =
    handed c.from_residual-in_err-ended.result c.in_err-ended.field-0.0 (IsBroken (all_items 0 c.args.count) c.args.bytes.now) c.from_residual-in_err-ended.ensures.1
    (places_ended c.args.at c.args.count c.loop-done.done c.args.bytes.now c.loop-done.places c.loop-done.left.now c.in_err-ended.field-0.0 c.loop-done.invariant c.loop-done-test.false c.in_err-ended.ensures.broken)

pub returns-clause-found : goal.returns-clause-found
returns-clause-found c =
    places_all c.args.at c.args.count c.loop-done.done c.args.bytes.now c.loop-done.places c.loop-done.left.now c.loop-done.invariant c.loop-done-test.false c.in_ok-ended.ensures.ok
