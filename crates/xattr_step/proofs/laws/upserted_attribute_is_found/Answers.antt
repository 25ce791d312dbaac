use Rattle.xattr_step.proofs.Upserted.{upserted_found}
use Rattle.xattr_step.proofs.laws.upserted_attribute_is_found.Goals as goal

pub returns : goal.returns
returns c = upserted_found
