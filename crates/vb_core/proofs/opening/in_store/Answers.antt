use Rattle.vb_core.proofs.Fresh.{fresh_fit}
use Rattle.vb_core.proofs.opening.in_store.Goals as goal

pub invariant_of-result : goal.invariant_of-result
invariant_of-result g c = fresh_fit c.args.store.meta c.args.log.content c.args.core c.requires.whole c.requires.core
