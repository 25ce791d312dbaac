use Rattle.copy_model.proofs.Disks.{sound}
use Rattle.copy_model.proofs.disk_laws.living_copies_have_one_pair.Goals as goal

pub returns : goal.returns
returns g c = λ k y luck e copy held alive. sound k y luck e copy held alive
