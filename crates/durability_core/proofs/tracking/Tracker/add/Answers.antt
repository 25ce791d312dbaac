use Rattle.std.proofs.Common.{ap, arith}
use Rattle.durability_core.specs.Tracking.{Tracked, IsLater}
use Rattle.durability_core.proofs.Committed.{more_kept}
use Rattle.durability_core.proofs.tracking.Tracker.add.Goals as goal

pub invariant_of-self-2 : goal.invariant_of-self-2
invariant_of-self-2 c =
    let now = c.self.inside in
    let later : IsLater c.args.prepare.position now.waiting =
    rw (ap (λ (t : Tracked). t.waiting) c.self.view_is) c.requires.later in
    rw (c.earlier-earliest.ensures, c.in_ok-push.ensures.ok, c.in_ok-reserve.ensures.items)
    (more_kept now.earliest _ now.waiting now.settled.items c.args.prepare _ later
    (omega (arith, c.in_ok-reserve.ensures.ok, c.len.ensures)) c.self.invariant)
