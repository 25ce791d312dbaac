use Rattle.json_spell.proofs.Exact.{document_took, not_exact, deep_exact}
use Rattle.json_model.specs.declared.TheConstants.{MOST_DEEP}
use Rattle.json_spell.proofs.scanned.read.Goals as goal

pub returns-in-Ok : goal.returns-in-Ok
returns-in-Ok c = let d = c.in-Ok.ensures in (d.0, document_took MOST_DEEP c.args.text.now d.0 d.1, d.2)

pub overflow_sub-result : goal.overflow_sub-result
overflow_sub-result c = (not_exact c.args.text.now c.in-Err-Not.left (rw c.in-Err-Not.field-0-is at c.in-Err-Not.ensures)).0

pub returns-in-Err-Not : goal.returns-in-Err-Not
returns-in-Err-Not c = (not_exact c.args.text.now c.in-Err-Not.left (rw c.in-Err-Not.field-0-is at c.in-Err-Not.ensures)).1

pub overflow_sub-result-in-Err-Deep : goal.overflow_sub-result-in-Err-Deep
overflow_sub-result-in-Err-Deep c = (deep_exact c.args.text.now c.in-Err-Deep.left (rw c.in-Err-Deep.field-0-is at c.in-Err-Deep.ensures)).0

pub returns-in-Err-Deep : goal.returns-in-Err-Deep
returns-in-Err-Deep c = (deep_exact c.args.text.now c.in-Err-Deep.left (rw c.in-Err-Deep.field-0-is at c.in-Err-Deep.ensures)).1
