use Rattle.manifest_rules.proofs.Runs.{no_scope_back, no_collection_back}
use Rattle.manifest_rules.proofs.Back.{no_scope_again, no_collection_again}
use Rattle.manifest_rules.proofs.laws.no_id_comes_back.Goals as goal

pub returns-clause-scopes : goal.returns-clause-scopes
returns-clause-scopes c = no_scope_again

pub returns-clause-collections : goal.returns-clause-collections
returns-clause-collections c = no_collection_again

pub returns-clause-dropped_scopes : goal.returns-clause-dropped_scopes
returns-clause-dropped_scopes c = no_scope_back

pub returns-clause-dropped_collections : goal.returns-clause-dropped_collections
returns-clause-dropped_collections c = no_collection_back
