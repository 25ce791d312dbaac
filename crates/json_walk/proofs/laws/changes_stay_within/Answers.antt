use Rattle.json_walk.proofs.Changes.{whole_stays, part_stays, stays_spliced}
use Rattle.json_walk.proofs.laws.changes_stay_within.Goals as goal

pub returns-clause-whole : goal.returns-clause-whole
returns-clause-whole c = whole_stays

pub returns-clause-part : goal.returns-clause-part
returns-clause-part c = part_stays

pub returns-clause-spliced : goal.returns-clause-spliced
returns-clause-spliced c = stays_spliced
