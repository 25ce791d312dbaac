use Rattle.vb_log.proofs.ContentBytes.{content_fits, one_spelled, one_break, broken_none}
use Rattle.vb_log.proofs.laws.content_has_one_spelling.Goals as goal

pub returns-clause-one_content : goal.returns-clause-one_content
returns-clause-one_content c = one_spelled

pub returns-clause-fits : goal.returns-clause-fits
returns-clause-fits c = content_fits

pub returns-clause-place : goal.returns-clause-place
returns-clause-place c = one_break

pub returns-clause-none : goal.returns-clause-none
returns-clause-none c = λ bytes place m b s. broken_none bytes b.left b.breaks m s
