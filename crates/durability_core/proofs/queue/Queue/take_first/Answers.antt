use Rattle.std.proofs.Common.{◌∷◌}
use Rattle.durability_core.specs.Kept.{IsQueue}
use Rattle.durability_core.proofs.Keyed.{one_less_kept}
use Rattle.durability_core.proofs.queue.Queue.take_first.Goals as goal

pub invariant_of-self : goal.invariant_of-self
invariant_of-self c =
    let items = c.in-Some.ensures.items in
    let kept : IsQueue c.self.inside.keys (c.in-Some.first ∷ c.pop_front.new.self.items) =
    rw (← items) c.self.invariant in
    rw c.remove.ensures.removed
    (one_less_kept c.self.inside.keys c.pop_front.new.self.items c.in-Some.first kept)
