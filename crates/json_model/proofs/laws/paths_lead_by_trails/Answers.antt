use Rattle.json_model.proofs.Following.{reached_trail, missing_trail}
use Rattle.json_model.proofs.laws.paths_lead_by_trails.Goals as goal

pub returns-clause-found : goal.returns-clause-found
returns-clause-found c = reached_trail

pub returns-clause-absent : goal.returns-clause-absent
returns-clause-absent c = missing_trail
