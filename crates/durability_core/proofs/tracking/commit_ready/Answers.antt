use Rattle.std.specs.Prelude.{map as list_map}
use Rattle.std.proofs.Common.{sym, arith}
use Rattle.durability_core.specs.Tracking.{is_ready_by}
use Rattle.durability_core.specs.Reaches.{known_of}
use Rattle.durability_core.proofs.Committed.{commits_more, ready_waits}
use Rattle.durability_core.proofs.tracking.commit_ready.Goals as goal

pub loop-position-preserved : goal.loop-position-preserved
loop-position-preserved c =
    let ready = is_ready_by c.args.chain.now c.args.own (list_map known_of c.args.known.now) in
    let rest = c.loop-position.waiting in
    let one_less = ready_waits ready rest c.in-Some.position (sym c.in-Some.ensures) in
    record {
      commits =
          rw (c.push_reserved.ensures.items, c.take_first.ensures)
          (commits_more ready c.args.waiting.now c.args.settled.now.items c.loop-position.settled.items
          rest c.in-Some.position (sym c.in-Some.ensures) c.loop-position.invariant.commits);
      room =
          rw c.take_first.ensures
          (omega (arith, one_less, c.push_reserved.ensures.len, c.push_reserved.ensures.capacity, c.loop-position.invariant.room));
      capacity = rw c.push_reserved.ensures.capacity c.loop-position.invariant.capacity;
    }
