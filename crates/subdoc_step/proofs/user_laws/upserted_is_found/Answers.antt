use Rattle.subdoc_step.proofs.Put.{upserted}
use Rattle.subdoc_step.proofs.user_laws.upserted_is_found.Goals as goal

pub returns : goal.returns
returns c = upserted
