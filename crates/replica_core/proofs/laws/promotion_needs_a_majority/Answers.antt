use Rattle.std.specs.Prelude.{false}
use Rattle.replica_core.proofs.Promotion.{owner_promoted, later_term, many_answered, none_ahead}
use Rattle.replica_core.proofs.Promotion.{promised_before, own_answered, whole_or_weak}
use Rattle.replica_core.proofs.laws.promotion_needs_a_majority.Goals as goal

pub returns-clause-owner : goal.returns-clause-owner
returns-clause-owner c = owner_promoted

pub returns-clause-later : goal.returns-clause-later
returns-clause-later c = later_term

pub returns-clause-many : goal.returns-clause-many
returns-clause-many c = many_answered

pub returns-clause-longest : goal.returns-clause-longest
returns-clause-longest c = none_ahead

pub returns-clause-promised : goal.returns-clause-promised
returns-clause-promised c = promised_before

pub returns-clause-own : goal.returns-clause-own
returns-clause-own c = own_answered

pub returns-clause-whole : goal.returns-clause-whole
returns-clause-whole c = λ core term answers e. whole_or_weak core term answers false e
