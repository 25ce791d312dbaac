use Rattle.copy_laws.specs.Guards.{IsWithinCas}
use Rattle.copy_laws.proofs.Deeds.{all_stay}
use Rattle.copy_laws.proofs.Guarding.{none_within, within_stays}
use Rattle.copy_laws.proofs.guards.no_cas_is_above_the_greatest.Goals as goal

pub returns-clause-begins : goal.returns-clause-begins
returns-clause-begins g c = none_within

pub returns-clause-kept : goal.returns-clause-kept
returns-clause-kept g c = λ y a b deeds key none t h. all_stay y (IsWithinCas key) (within_stays key) a b deeds none t h
