use Rattle.magma_disk.proofs.Left.{nothing_read, nothing_left}
use Rattle.magma_disk.proofs.laws.writing_nothing_changes_nothing.Goals as goal

pub returns-clause-read : goal.returns-clause-read
returns-clause-read c = nothing_read

pub returns-clause-left : goal.returns-clause-left
returns-clause-left c = nothing_left
