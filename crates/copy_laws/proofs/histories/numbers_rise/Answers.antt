use Rattle.copy_laws.proofs.Numbers.{none_falls, tells_numbers}
use Rattle.copy_laws.proofs.histories.numbers_rise.Goals as goal

pub returns-clause-kept : goal.returns-clause-kept
returns-clause-kept g c = λ y a b deeds none t. none_falls y a b deeds none t

pub returns-clause-told : goal.returns-clause-told
returns-clause-told g c = λ y a b request now reply none t named differs. tells_numbers y a b request now reply none t named differs
