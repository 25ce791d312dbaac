use Rattle.subdoc_edit.proofs.Pieces.{standing_within}
use Rattle.subdoc_edit.proofs.Placed.{front_none, front_some}
use Rattle.subdoc_edit.proofs.places.front_of.Goals as goal

pub first_part-requires : goal.first_part-requires
first_part-requires c = standing_within c.args.text.now c.args.at c.requires

pub returns-in-None : goal.returns-in-None
returns-in-None c t s array new trim = front_none c.args.text.now c.args.at t s array (c.in-None.ensures.found t s) new trim

pub returns-in-Some : goal.returns-in-Some
returns-in-Some c t s array new trim = front_some c.args.text.now c.args.at t c.in-Some.first s array (c.in-Some.ensures.found t s) new trim
