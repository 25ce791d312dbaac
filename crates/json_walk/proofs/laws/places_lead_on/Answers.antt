use Rattle.std.proofs.Common.{refl, ◌∙◌}
use Rattle.json_walk.proofs.Standing.{root_at, inside, first_value}
use Rattle.json_walk.proofs.Further.{there_from, from_some}
use Rattle.json_walk.proofs.laws.places_lead_on.Goals as goal

pub returns-clause-root : goal.returns-clause-root
returns-clause-root c = root_at

pub returns-clause-inside : goal.returns-clause-inside
returns-clause-inside c = inside

pub returns-clause-value : goal.returns-clause-value
returns-clause-value c = first_value

pub returns-clause-behind : goal.returns-clause-behind
returns-clause-behind c bytes at shape ps from left s e = there_from bytes shape 1 at ps from left s (from_some 0 at ps at ps refl ∙ e)

pub returns-clause-numbered : goal.returns-clause-numbered
returns-clause-numbered c bytes at shape ps k from left s e = there_from bytes shape k at ps from left s e
