use Rattle.magma_store.proofs.getting.item_of.Goals as goal

-- src/getting.rt:46:1
pub returns-clause-found : goal.returns-clause-found
returns-clause-found g c = λ item stands own. c.of_key.ensures.same item (c.in_ok-found.ensures.found item stands) own
