use Rattle.copy_laws.proofs.Numbers.{all_rise}
use Rattle.copy_laws.proofs.histories.nothing_begins_to_wait.Goals as goal

pub returns : goal.returns
returns g c = λ y a b deeds none t. (all_rise y a b deeds none t).none
