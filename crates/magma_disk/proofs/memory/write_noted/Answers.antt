use Rattle.std.proofs.Common.{inr, take, arith}
use Rattle.std.proofs.lemmas.Grind.{common_steps}
use Rattle.magma_disk.specs.Device.{overlaid}
use Rattle.magma_disk.proofs.Bytes.{front_longer, front_torn}
use Rattle.magma_disk.proofs.memory.write_noted.Goals as goal

pub returns-clause-failed : goal.returns-clause-failed
returns-clause-failed c =
    let file = c.args.contents.now.bytes.items in
    let piece = c.args.piece.now in
    inr (overlaid file c.args.at (take c.args.count piece), front_longer file c.args.at (take c.args.count piece), front_torn file c.args.at piece c.args.count c.requires.front, grind (arith, common_steps))
