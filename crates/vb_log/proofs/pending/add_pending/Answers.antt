use Rattle.std.proofs.Common.{sym, subst}
use Rattle.vb_log.specs.Prepares.{widest, IsWaiting}
use Rattle.vb_log.proofs.PendingBytes.{each_waits}
use Rattle.vb_log.proofs.pending.add_pending.Goals as goal

pub add_waiting-requires : goal.add_waiting-requires
add_waiting-requires c =
    subst (IsWaiting widest 0) (sym c.prepare-item.is)
    (each_waits widest 0 c.args.prepares.now c.loop-prepare.prepare-index c.prepare-item.result c.requires.waiting c.loop-prepare-test.true)
