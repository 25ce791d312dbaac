use Rattle.copy_model.proofs.Disks.{stopped}
use Rattle.copy_model.proofs.disk_laws.stopped_writes_leave_the_copy_dead.Goals as goal

pub returns : goal.returns
returns g c = λ k y luck e copy. stopped k y luck e copy
