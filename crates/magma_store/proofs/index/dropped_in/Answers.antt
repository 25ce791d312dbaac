use Rattle.std.proofs.Common.{◌≡◌, IsTrue, List, ℕ, inr, drop, sym, subst}
use Rattle.manifest_rules.specs.State.{IsNoState, are_rising}
use Rattle.manifest_rules.specs.declared.state.StateFault.{StateFault}
use Rattle.magma_store.proofs.index.dropped_in.Goals as goal

pub returns-in_ok-to_vec-in-Ok-clause-rise : goal.returns-in_ok-to_vec-in-Ok-clause-rise
returns-in_ok-to_vec-in-Ok-clause-rise c =
    let same : c.in_ok-to_vec-in-Ok.field-0.items ≡ c.dropped_collections.result.now =
    c.in_ok-to_vec-in-Ok.ensures.items_if_clones_equal (λ x y e. e) in
    subst (λ (ids : List ℕ). IsTrue (are_rising ids)) (sym same) c.dropped_collections.ensures.rising

pub returns-in-Err-Bad-clause-dropped : goal.returns-in-Err-Bad-clause-dropped
returns-in-Err-Bad-clause-dropped c =
    let none =
    subst (λ (fault : StateFault). IsNoState c.args.tail.now fault) c.in-Err-Bad.field-0-is c.in-Err-Bad.ensures.none in
    inr (c.new.ensures.items, λ manifest size at. none.1 manifest (drop size c.args.tail.now) at.kept at.front)
