use Rattle.json_walk.proofs.Heads.{kind_is}
use Rattle.json_walk.proofs.walking.kind_at.Goals as goal

pub returns-in-len1-up : goal.returns-in-len1-up
returns-in-len1-up c = kind_is c.args.text.now c.split_at.result.1.now c.args.at c.kind_of.result c.split_at.ensures.back c.in-len1-up.len_at_least c.kind_of.ensures
