use Rattle.kv_request.proofs.Small.{request_is_small}
use Rattle.kv_request.proofs.laws.requests_are_small.Goals as goal

pub returns : goal.returns
returns c = request_is_small
