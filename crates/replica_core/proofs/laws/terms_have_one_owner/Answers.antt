use Rattle.replica_core.proofs.Terms.{one_owner, owner_below, least_term, most_term, each_owned}
use Rattle.replica_core.proofs.laws.terms_have_one_owner.Goals as goal

pub returns-clause-one : goal.returns-clause-one
returns-clause-one c = one_owner

pub returns-clause-place : goal.returns-clause-place
returns-clause-place c = owner_below

pub returns-clause-least : goal.returns-clause-least
returns-clause-least c = least_term

pub returns-clause-most : goal.returns-clause-most
returns-clause-most c = most_term

pub returns-clause-each : goal.returns-clause-each
returns-clause-each c = each_owned
