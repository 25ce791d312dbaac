use Rattle.manifest_rules.proofs.Distinct.{then_collections}
use Rattle.manifest_rules.proofs.rules.are_named.Goals as goal

pub returns-then-scopes_named : goal.returns-then-scopes_named
returns-then-scopes_named c = then_collections c.args.scopes.now c.scopes_named.result c.all_collections_named.result c.scopes_named.ensures c.if-scopes_named.true c.all_collections_named.ensures
