use Rattle.copy_laws.proofs.Historic.{flushes_leave}
use Rattle.copy_laws.proofs.histories.flushes_change_no_document.Goals as goal

pub returns : goal.returns
returns g c = λ y a b deeds none t h. flushes_leave y a b deeds none t h
