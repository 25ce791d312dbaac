use Rattle.copy_model.proofs.Disks.{laid}
use Rattle.copy_model.proofs.disk_laws.written_disks_have_their_layout.Goals as goal

pub returns : goal.returns
returns g c = λ k y luck e copy. laid k y luck e copy
