use Rattle.std.specs.Prelude.{length}
use Rattle.std.proofs.Common.{ap, arith}
use Rattle.copy_memory.proofs.Room.{has_room}
use Rattle.copy_memory.proofs.adding.add_within.Goals as goal

pub add-requires-clause-room : goal.add-requires-clause-room
add-requires-clause-room c =
    let waiting = ap length c.prepares.ensures.value in
    let others = c.length.ensures in
    let long = c.saturating_add.ensures in
    let size = c.in_ok-size_after.ensures in
    has_room c.args.content.now c.args.entry (omega arith) (omega arith)
