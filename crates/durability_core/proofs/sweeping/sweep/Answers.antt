use Rattle.std.proofs.Common.{◌≡◌, ◌<◌, [], ◌∷◌, refl, length, length-append, sym, ◌∙◌, ap, arith}
use Rattle.durability_core.specs.Kept.{IsQueue}
use Rattle.durability_core.proofs.Keyed.{one_less_kept, one_turned_kept}
use Rattle.durability_core.proofs.Swept.{sweep_begins, sweep_settles, sweep_keeps, sweep_has, sweep_ends}
use Rattle.durability_core.proofs.sweeping.sweep.Goals as goal
use Rattle.durability_core.proofs.sweeping.sweep.Goals.{in-Some+then-is_due, in-Some+else-is_due, in_default}

pub loop-turn-init : goal.loop-turn-init
loop-turn-init c = record {
  queue = c.requires.queue;
  sweep = sweep_begins c.args.now c.args.prepares.now.items c.args.settled.now.items _;
  room = c.requires.room;
  capacity = refl;
}

pub loop-turn-preserved : goal.loop-turn-preserved
loop-turn-preserved c =
    let before = c.loop-turn.prepares.items in
    let after = c.pop_front.new.self.items in
    let all = c.args.prepares.now.items in
    let first = c.args.settled.now.items in
    let settled = c.loop-turn.settled.items in
    let turn : c.loop-turn._turn < length all =
    omega (arith, c.loop-turn-test.true, c.len-turn-end.ensures, c.args.prepares.now.ok.0) in
    elim c.match-pop_front.branch [
      | in-Some+then-is_due w ↦
          let front : before ≡ w.in-Some.first ∷ after = w.in-Some.ensures.items in
          let kept : IsQueue c.loop-turn.keys (w.in-Some.first ∷ after) =
          rw (← front) c.loop-turn.invariant.queue in
          record {
            queue =
                rw (w.keys-is, w.prepares-is, w.remove.ensures.removed)
                (one_less_kept c.loop-turn.keys after w.in-Some.first kept);
            sweep =
                rw (w.prepares-is, w.settled-is, w.earliest-is, w.push_reserved.ensures.items)
                (sweep_settles c.args.now all before first settled c.loop-turn.earliest c.loop-turn._turn
                w.in-Some.first after c.loop-turn.invariant.sweep front turn
                (sym w.is_due.ensures ∙ w.if-is_due.true));
            room =
                rw (w.settled-is, w.prepares-is)
                (omega (arith, w.push_reserved.ensures.len, w.push_reserved.ensures.capacity, ap length front, c.loop-turn.invariant.room));
            capacity = rw (w.settled-is, w.push_reserved.ensures.capacity) c.loop-turn.invariant.capacity;
          }
      | in-Some+else-is_due w ↦
          let front : before ≡ w.in-Some.first ∷ after = w.in-Some.ensures.items in
          let kept : IsQueue c.loop-turn.keys (w.in-Some.first ∷ after) =
          rw (← front) c.loop-turn.invariant.queue in
          record {
            queue =
                rw (w.keys-is, w.prepares-is, w.push_back_reserved.ensures.items)
                (one_turned_kept c.loop-turn.keys after w.in-Some.first kept);
            sweep =
                rw (w.prepares-is, w.settled-is, w.earliest-is, w.push_back_reserved.ensures.items, w.earlier-earliest.ensures)
                (sweep_keeps c.args.now all before first settled c.loop-turn.earliest c.loop-turn._turn
                w.in-Some.first after c.loop-turn.invariant.sweep front turn
                (sym w.is_due.ensures ∙ w.if-is_due.false));
            room =
                rw (w.settled-is, w.prepares-is, w.push_back_reserved.ensures.items)
                (omega (arith, length-append after (w.in-Some.first ∷ []), ap length front, c.loop-turn.invariant.room));
            capacity = rw w.settled-is c.loop-turn.invariant.capacity;
          }
      | in_default w ↦
          absurd (sweep_has c.args.now all before first settled c.loop-turn.earliest c.loop-turn._turn
          c.loop-turn.invariant.sweep turn
          (omega (arith, w.in_default.ensures.cases.0, c.loop-turn.prepares.ok.0)))
    ]

pub push_reserved-requires : goal.push_reserved-requires
push_reserved-requires c =
    omega (arith, c.loop-turn.invariant.room, ap length c.in-Some.ensures.items)

pub push_back_reserved-requires : goal.push_back_reserved-requires
push_back_reserved-requires c =
    omega (arith, c.in-Some.ensures.len, c.in-Some.ensures.capacity, c.loop-turn.prepares.small.1)

pub returns : goal.returns
returns c =
    let ended = sweep_ends c.args.now c.args.prepares.now.items c.loop-turn.prepares.items c.args.settled.now.items c.loop-turn.settled.items c.loop-turn.earliest c.loop-turn._turn c.loop-turn.invariant.sweep
    (omega (arith, c.loop-turn-test.false, c.len-turn-end.ensures, c.args.prepares.now.ok.0)) in
    record {
      queue = c.loop-turn.invariant.queue;
      left = ended.stay;
      settled = ended.settle;
      room = c.loop-turn.invariant.capacity;
      earliest = ended.none_before;
    }
