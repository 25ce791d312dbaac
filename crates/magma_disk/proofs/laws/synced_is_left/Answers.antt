use Rattle.magma_disk.proofs.Left.{after_sync, read_after}
use Rattle.magma_disk.proofs.laws.synced_is_left.Goals as goal

pub returns-clause-left : goal.returns-clause-left
returns-clause-left c = after_sync

pub returns-clause-read : goal.returns-clause-read
returns-clause-read c = read_after
