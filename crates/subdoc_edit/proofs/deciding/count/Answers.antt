use Rattle.subdoc_edit.proofs.Decisions.{found_stands, count_decides}
use Rattle.subdoc_edit.proofs.deciding.count.Goals as goal

pub counter_at-requires-clause-stands : goal.counter_at-requires-clause-stands
counter_at-requires-clause-stands c = found_stands c.args.text.now c.args.parts.now c.requires.found.0 c.args.at c.requires.found.1

pub returns : goal.returns
returns c d several l asked gives describes =
    count_decides several c.args.text.now c.args.value.now c.args.parts.now d c.args.at c.args.given c.counter_at.result asked c.counter_at.ensures l gives describes
