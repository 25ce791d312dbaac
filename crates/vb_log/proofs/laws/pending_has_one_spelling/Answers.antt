use Rattle.vb_log.specs.Prepares.{widest}
use Rattle.vb_log.proofs.PendingBytes.{same_pending, widest_bounds, pending_one_break, pending_none}
use Rattle.vb_log.proofs.laws.pending_has_one_spelling.Goals as goal

pub returns-clause-one_list : goal.returns-clause-one_list
returns-clause-one_list c = λ first second rest more h k e. let same = same_pending widest first second rest more widest_bounds h k e in same.one

pub returns-clause-place : goal.returns-clause-place
returns-clause-place c = pending_one_break

pub returns-clause-none : goal.returns-clause-none
returns-clause-none c = λ bytes place ps rest b. pending_none bytes b.left b.breaks ps rest
