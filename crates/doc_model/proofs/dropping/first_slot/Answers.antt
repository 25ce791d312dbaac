use Rattle.doc_model.proofs.Freed.{none_stands, other_stands}
use Rattle.doc_model.proofs.dropping.first_slot.Goals as goal

pub returns-else-slot-collection : goal.returns-else-slot-collection
returns-else-slot-collection g c =
    other_stands c.args.collection c.range.result c.args.slots.now.entries c.next.new.self (c.in-Some.slot.now, c.in-Some.field-0-1.now)
    (c.range.ensures.between tt) c.in-Some.ensures.steps c.range.ensures.ordered c.if-slot-collection.false

pub returns-in-None : goal.returns-in-None
returns-in-None g c = none_stands c.args.collection c.range.result c.args.slots.now.entries (c.range.ensures.between tt) c.in-None.ensures.steps.0
