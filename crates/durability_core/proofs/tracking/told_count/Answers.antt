use Rattle.durability_core.proofs.Reached.{put_back_there}
use Rattle.durability_core.proofs.tracking.told_count.Goals as goal

pub returns-clause-same : goal.returns-clause-same
returns-clause-same c =
    put_back_there c.args.known.now c.raise.new.known c.put_back.new.known c.args.place
    c.args.told.0 c.args.told.1 c.reach_at-before.result c.raise.ensures c.reach_at-before.ensures
    c.put_back.ensures
