use Rattle.std.specs.Prelude.{map as list_map}
use Rattle.durability_core.specs.Tracking.{known_at}
use Rattle.durability_core.specs.Reaches.{known_of}
use Rattle.durability_core.proofs.Reached.{ready_at_one, ready_above, unready}
use Rattle.durability_core.proofs.places.is_ready.Goals as goal

pub returns-then-level-eq1 : goal.returns-then-level-eq1
returns-then-level-eq1 c =
    let known = known_at (list_map known_of c.args.known.now) in
    let len = c.len.ensures in
    ready_at_one c.args.chain.now c.args.own known c.args.level c.args.position c.reached_count.result
    c.reached_count.ensures (rw len at c.if-most.true) c.if-level-eq1.true

pub returns-else-level-eq1 : goal.returns-else-level-eq1
returns-else-level-eq1 c =
    let known = known_at (list_map known_of c.args.known.now) in
    let len = c.len.ensures in
    ready_above c.args.chain.now c.args.own known c.args.level c.args.position c.reached_count.result
    c.reached_count.ensures c.reach_at.result (rw len at c.if-most.true) c.if-level-eq1.false
    c.reach_at.ensures

pub returns-else-most : goal.returns-else-most
returns-else-most c =
    let known = known_at (list_map known_of c.args.known.now) in
    let len = c.len.ensures in
    rw len
    (unready c.args.chain.now c.args.own known c.args.level c.args.position c.reached_count.result
    c.reached_count.ensures (rw len at c.if-most.false))
