use Rattle.copy_laws.proofs.Remembered.{set_told}
use Rattle.copy_laws.proofs.histories.get_tells_what_was_set.Goals as goal

pub returns : goal.returns
returns g c = λ y a b e d set get moment now flags expiry key value done told between none sets first success run leaves gets last served lasts.
    set_told y a b e d set get moment now flags expiry key value done told between none sets first success run leaves gets last served lasts
