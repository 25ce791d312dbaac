use Rattle.subdoc_step.proofs.Within.{found_within, left_within}
use Rattle.subdoc_step.proofs.user_laws.looks_are_within.Goals as goal

pub returns-clause-found : goal.returns-clause-found
returns-clause-found c = found_within

pub returns-clause-left : goal.returns-clause-left
returns-clause-left c = left_within
