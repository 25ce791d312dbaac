use Rattle.std.proofs.Common.{◌≡◌, false}
use Rattle.durability_core.specs.Tracking.{has_waiting}
use Rattle.durability_core.proofs.Keyed.{one_more_kept}
use Rattle.durability_core.proofs.queue.Queue.push.Goals as goal

pub invariant_of-self-2 : goal.invariant_of-self-2
invariant_of-self-2 c =
    let free : has_waiting c.self.inside.prepares.items c.args.prepare.key ≡ false =
    rw c.self.view_is c.requires in
    rw (c.push_back_reserved.ensures.items, c.in_ok-reserve.ensures.items, c.in_ok-insert.ensures.ok, c.is_inherited.ensures)
    (one_more_kept c.self.inside.keys c.self.inside.prepares.items c.args.prepare free c.self.invariant)
