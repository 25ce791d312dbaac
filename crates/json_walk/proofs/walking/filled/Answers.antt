use Rattle.std.proofs.Common.{refl}
use Rattle.json_walk.proofs.Heads.{filled_is}
use Rattle.json_walk.proofs.walking.filled.Goals as goal

pub returns-in-len1-up-clause-found : goal.returns-in-len1-up-clause-found
returns-in-len1-up-clause-found c = filled_is c.args.text.now c.split_at.result.1.now _ c.args.at c.shape_of.result c.split_at.ensures.back c.in-len1-up.len_at_least refl c.shape_of.ensures
