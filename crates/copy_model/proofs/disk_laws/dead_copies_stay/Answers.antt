use Rattle.copy_model.proofs.Dead.{step_dead}
use Rattle.copy_model.proofs.disk_laws.dead_copies_stay.Goals as goal

pub returns : goal.returns
returns g c = λ k y luck e copy dead.
    let same = step_dead k y luck e copy dead in
    (same.role, same.log, same.accepted, same.promise, same.disk, same.torn)
