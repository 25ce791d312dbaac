use Rattle.xattr_body.proofs.Changes.{gone_alone, gone_its, gone_others, gone_whole}
use Rattle.xattr_body.proofs.laws.remove_takes_one.Goals as goal

pub returns-clause-alone : goal.returns-clause-alone
returns-clause-alone c = λ name pairs h. gone_alone name pairs h.distinct

pub returns-clause-its : goal.returns-clause-its
returns-clause-its c = λ name pairs h. gone_its name pairs h.distinct

pub returns-clause-others : goal.returns-clause-others
returns-clause-others c = gone_others

pub returns-clause-whole : goal.returns-clause-whole
returns-clause-whole c = gone_whole
