use Rattle.subdoc_step.proofs.Others.{others_stay}
use Rattle.subdoc_step.proofs.user_laws.other_members_stay.Goals as goal

pub returns : goal.returns
returns c = others_stay
