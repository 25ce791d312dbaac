use Rattle.durability_core.proofs.Committed.{committed_kept}
use Rattle.durability_core.proofs.tracking.Tracker.ack.Goals as goal

pub invariant_of-self : goal.invariant_of-self
invariant_of-self c =
    let now = c.self.inside in
    rw (c.commit_ready.ensures.left, c.commit_ready.ensures.settled, c.clear.ensures.items, c.commit_ready.ensures.room, c.clear.ensures.capacity)
    (committed_kept now.earliest _ now.waiting now.settled.items _ c.self.invariant)
