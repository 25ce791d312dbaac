use Rattle.std.proofs.Common.{◌∙◌, ◌++◌, ◌∷◌, [], sym, ap}
use Rattle.magma_store.proofs.Gotten.{some_same, none_some}
use Rattle.magma_store.proofs.getting.add_item.Goals as goal

-- src/getting.rt:154:1
pub returns-in_ok-push-in-Some-clause-added : goal.returns-in_ok-push-in-Some-clause-added
returns-in_ok-push-in-Some-clause-added g c = λ item stands.
    c.in_ok-push-in-Some.ensures.items
    ∙ ap (λ i. c.args.items.now.items ++ i ∷ []) (some_same c.in-Some.item item (sym c.in-Some.is ∙ c.in_ok-item.ensures.found item stands))

-- src/getting.rt:154:1
pub returns-in-None-clause-added : goal.returns-in-None-clause-added
returns-in-None-clause-added g c = λ item stands. absurd (none_some item (sym c.in-None.is ∙ c.in_ok-item.ensures.found item stands))
