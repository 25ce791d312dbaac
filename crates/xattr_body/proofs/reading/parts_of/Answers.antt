use Rattle.xattr_body.proofs.Pairs.{no_parts, no_rest, no_last}
use Rattle.xattr_body.proofs.reading.parts_of.Goals as goal

pub returns-in-empty : goal.returns-in-empty
returns-in-empty c = no_rest c.args.body.now c.in-Some.name.now c.in-Some.rest.now c.in-Some.ensures c.in-empty.len_below

pub returns-else-last-eq0 : goal.returns-else-last-eq0
returns-else-last-eq0 c = no_last c.args.body.now c.in-Some.name.now c.in-Some.rest.now c.in-Some.ensures c.if-last-eq0.false

pub returns-in-None : goal.returns-in-None
returns-in-None c = no_parts c.args.body.now c.in-None.ensures
