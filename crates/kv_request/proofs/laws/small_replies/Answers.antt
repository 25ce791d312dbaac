use Rattle.kv_request.proofs.Small.{small_fits}
use Rattle.kv_request.proofs.laws.small_replies.Goals as goal

pub returns : goal.returns
returns c = small_fits
