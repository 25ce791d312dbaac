use Rattle.subdoc_edit.proofs.Decisions.{found_stands, set_refused, set_decides}
use Rattle.subdoc_edit.proofs.deciding.add_unique.Goals as goal

pub set_fault-requires : goal.set_fault-requires
set_fault-requires c = found_stands c.args.text.now c.args.parts.now c.requires.found.0 c.args.at c.requires.found.1

pub push_at-requires-clause-stands : goal.push_at-requires-clause-stands
push_at-requires-clause-stands c = found_stands c.args.text.now c.args.parts.now c.requires.found.0 c.args.at c.requires.found.1

pub returns-in-Some : goal.returns-in-Some
returns-in-Some c d several l asked gives describes =
    set_refused several c.args.text.now c.args.value.now c.cut.result.now c.args.parts.now d c.args.at c.args.given c.in-Some.status asked c.cut.ensures c.in-Some.ensures l gives describes

pub returns : goal.returns
returns c d several l asked gives describes =
    set_decides several c.args.text.now c.args.value.now c.cut.result.now c.args.parts.now d c.args.at c.args.given c.in_ok-plan.plan asked c.cut.ensures c.in-None.ensures c.in_ok-plan.ensures.plan c.in_ok-plan.ensures.number l gives describes
