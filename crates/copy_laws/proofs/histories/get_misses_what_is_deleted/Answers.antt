use Rattle.copy_laws.proofs.Remembered.{deleted_misses}
use Rattle.copy_laws.proofs.histories.get_misses_what_is_deleted.Goals as goal

pub returns : goal.returns
returns g c = λ y a b e d delete get earlier now key done told between none deletes first success run leaves gets last served.
    deleted_misses y a b e d delete get earlier now key done told between none deletes first success run leaves gets last served
