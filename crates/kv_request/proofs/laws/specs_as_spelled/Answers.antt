use Rattle.kv_request.proofs.Walking.{specs_read, specs_spelled}
use Rattle.kv_request.proofs.laws.specs_as_spelled.Goals as goal

pub returns-clause-read : goal.returns-clause-read
returns-clause-read c = specs_read

pub returns-clause-spelled : goal.returns-clause-spelled
returns-clause-spelled c = specs_spelled
