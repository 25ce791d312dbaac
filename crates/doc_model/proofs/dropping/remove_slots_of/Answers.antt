use Rattle.std.proofs.Common.{◌∙◌}
use Rattle.doc_model.proofs.Freed.{freed, all_freed}
use Rattle.doc_model.proofs.dropping.remove_slots_of.Goals as goal

pub loop-slot-preserved-in-Some : goal.loop-slot-preserved-in-Some
loop-slot-preserved-in-Some g c =
    freed c.args.collection c.in-Some.slot c.loop-slot.slots.entries c.remove.new.self.entries c.in-Some.ensures.its c.remove.ensures.entries ∙ c.loop-slot.invariant

pub returns : goal.returns
returns g c = all_freed c.args.collection c.args.slots.now.entries c.loop-slot.slots.entries c.loop-slot.invariant c.in_default.ensures
