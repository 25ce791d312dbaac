use Rattle.manifest_rules.proofs.Back.{scopes_drop, collections_drop}
use Rattle.manifest_rules.proofs.laws.dropped_ids_are_the_lost.Goals as goal

pub returns-clause-scopes : goal.returns-clause-scopes
returns-clause-scopes c = scopes_drop

pub returns-clause-collections : goal.returns-clause-collections
returns-clause-collections c = collections_drop
