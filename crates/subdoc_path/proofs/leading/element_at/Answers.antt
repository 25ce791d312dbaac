use Rattle.subdoc_path.proofs.Naming.{element_none, element_here}
use Rattle.subdoc_path.proofs.leading.element_at.Goals as goal

pub returns-in-None : goal.returns-in-None
returns-in-None c t is k = element_none c.args.number c.args.at t (c.in-None.ensures.found t is)

pub returns-in-Some : goal.returns-in-Some
returns-in-Some c t is k = element_here c.args.number c.args.at t c.in-Some.found (c.in-Some.ensures.found t is)
