use Rattle.std.proofs.Common.{List, ◌++◌, sym, ◌∙◌, ap, append-nil, refl}
use Rattle.durability_core.specs.Tracking.{positions}
use Rattle.durability_core.specs.declared.waiting.Waiting.{Waiting}
use Rattle.durability_core.proofs.Committed.{none_due}
use Rattle.durability_core.proofs.tracking.give_up.Goals as goal

pub returns-then-now-earliest : goal.returns-then-now-earliest
returns-then-now-earliest c =
    let none = none_due c.args.earliest c.args.now c.args.waiting.now c.if-now-earliest.true c.requires.earliest in
    record {
      left = none.0;
      settled =
          sym (append-nil c.args.settled.now.items)
          ∙ ap (λ (ws : List Waiting). c.args.settled.now.items ++ positions ws) (sym none.1);
      room = refl;
      earliest = c.requires.earliest;
    }
