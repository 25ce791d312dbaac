use Rattle.xattr_body.proofs.Changes.{put_its, put_others, put_in_place, put_last, put_together}
use Rattle.xattr_body.proofs.laws.put_changes_one.Goals as goal

pub returns-clause-its : goal.returns-clause-its
returns-clause-its c = put_its

pub returns-clause-others : goal.returns-clause-others
returns-clause-others c = put_others

pub returns-clause-in_place : goal.returns-clause-in_place
returns-clause-in_place c = put_in_place

pub returns-clause-last : goal.returns-clause-last
returns-clause-last c = put_last

pub returns-clause-together : goal.returns-clause-together
returns-clause-together c = put_together
