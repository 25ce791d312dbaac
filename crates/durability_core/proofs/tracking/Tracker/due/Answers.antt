use Rattle.durability_core.proofs.Committed.{given_up_kept}
use Rattle.durability_core.proofs.tracking.Tracker.due.Goals as goal

pub invariant_of-self : goal.invariant_of-self
invariant_of-self c =
    let now = c.self.inside in
    let left = c.give_up-earliest.ensures.left in
    rw (c.give_up-earliest.ensures.left, c.give_up-earliest.ensures.settled, c.clear.ensures.items, c.give_up-earliest.ensures.room, c.clear.ensures.capacity)
    (given_up_kept now.earliest _ now.waiting now.settled.items c.args.now _
    (rw left at c.give_up-earliest.ensures.earliest) c.self.invariant)
