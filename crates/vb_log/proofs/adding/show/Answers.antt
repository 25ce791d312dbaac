use Rattle.std.proofs.Common.{ap, arith}
use Rattle.vb_log.specs.Held.{item_weight, pending_size}
use Rattle.vb_log.proofs.Totals.{numbered_bytes}
use Rattle.vb_log.proofs.Weighing.{size_insert}
use Rattle.vb_log.proofs.adding.show.Goals as goal

pub replace-requires-clause-room : goal.replace-requires-clause-room
replace-requires-clause-room c =
    let more = size_insert c.args.items.now c.args.key.now c.item_made.result in
    let made = ap item_weight c.item_made.ensures in
    let bytes = numbered_bytes c.args.position c.in-Some.change.what in
    let is = ap pending_size c.in-Some.is in
    omega (arith, c.requires.room)
