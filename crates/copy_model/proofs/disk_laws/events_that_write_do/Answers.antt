use Rattle.copy_model.proofs.Disks.{done}
use Rattle.copy_model.proofs.disk_laws.events_that_write_do.Goals as goal

pub returns : goal.returns
returns g c = λ k y luck e copy held begins fine. done k y luck e copy held begins fine
