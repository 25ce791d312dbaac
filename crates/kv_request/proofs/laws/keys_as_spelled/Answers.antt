use Rattle.kv_request.proofs.Spelled.{key_read, key_spelled}
use Rattle.kv_request.proofs.laws.keys_as_spelled.Goals as goal

pub returns-clause-read : goal.returns-clause-read
returns-clause-read c = key_read

pub returns-clause-spelled : goal.returns-clause-spelled
returns-clause-spelled c = key_spelled
