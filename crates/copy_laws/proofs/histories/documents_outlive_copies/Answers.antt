use Rattle.copy_laws.proofs.Remembered.{set_told_later}
use Rattle.copy_laws.proofs.histories.documents_outlive_copies.Goals as goal

pub returns : goal.returns
returns g c = λ y z a b c' d e f set get moment now flags expiry key value done told between later none sets first success run leaves same more leave gets last served lasts.
    set_told_later y z a b c' d e f set get moment now flags expiry key value done told between later none sets first success run leaves same more leave gets last served lasts
