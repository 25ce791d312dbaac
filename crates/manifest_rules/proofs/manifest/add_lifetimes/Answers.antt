use Rattle.manifest_rules.proofs.Lifetimes.{one_more}
use Rattle.manifest_rules.proofs.manifest.add_lifetimes.Goals as goal

pub loop-collection-preserved : goal.loop-collection-preserved
loop-collection-preserved c = λ id.
    one_more _ _ _ id _ _ _ c.collection-item.is c.loop-collection-test.true (c.loop-collection.invariant id) (c.in_ok-add_lifetime.ensures id)
