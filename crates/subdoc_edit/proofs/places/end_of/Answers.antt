use Rattle.subdoc_edit.proofs.Pieces.{standing_within}
use Rattle.subdoc_edit.proofs.Placed.{end_none, end_some}
use Rattle.subdoc_edit.proofs.places.end_of.Goals as goal

pub last_end-requires : goal.last_end-requires
last_end-requires c = standing_within c.args.text.now c.args.at c.requires

pub returns-in-None : goal.returns-in-None
returns-in-None c t s holds new trim = end_none c.args.text.now c.args.at t s holds (c.in-None.ensures.found t s) new trim

pub returns-in-Some : goal.returns-in-Some
returns-in-Some c t s holds new trim = end_some c.args.text.now c.args.at c.in-Some.end t s (c.in-Some.ensures.found t s) new trim
