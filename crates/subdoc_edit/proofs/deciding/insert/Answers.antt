use Rattle.subdoc_edit.proofs.Decisions.{found_stands, insert_decides}
use Rattle.subdoc_edit.proofs.deciding.insert.Goals as goal

pub insert_at-requires-clause-stands : goal.insert_at-requires-clause-stands
insert_at-requires-clause-stands c = found_stands c.args.text.now c.args.parts.now c.requires.found.0 c.args.at c.requires.found.1

pub returns : goal.returns
returns c d several l asked gives describes =
    insert_decides several c.args.text.now c.args.value.now c.args.parts.now d c.args.at c.args.given c.in_ok-plan.plan asked c.requires.form c.in_ok-plan.ensures.plan c.in_ok-plan.ensures.number l gives describes
