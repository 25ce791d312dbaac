use Rattle.manifest_rules.proofs.Lifetimes.{scope_more}
use Rattle.manifest_rules.proofs.manifest.lifetimes_of.Goals as goal

pub loop-scope-preserved : goal.loop-scope-preserved
loop-scope-preserved c = λ id.
    scope_more _ _ _ id _ _ c.scope-item.is c.loop-scope-test.true (c.loop-scope.invariant id) (rw (← c.as_slice.ensures) (c.in_ok-add_lifetimes.ensures id))
