use Rattle.copy_model.proofs.Disks.{unwritten}
use Rattle.copy_model.proofs.disk_laws.unwritten_disks_stay.Goals as goal

pub returns : goal.returns
returns g c = λ k y luck e copy held idle.
    let same = unwritten k y luck e copy held idle in
    (same.disk, same.torn)
