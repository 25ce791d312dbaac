use Rattle.xattr_body.proofs.Sections.{one_place, broken_none}
use Rattle.xattr_body.proofs.laws.one_broken_place.Goals as goal

pub returns-clause-place : goal.returns-clause-place
returns-clause-place c = one_place

pub returns-clause-none : goal.returns-clause-none
returns-clause-none c = broken_none
