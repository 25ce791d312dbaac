use Rattle.std.proofs.Common.{[], length, ◌-◌}
use Rattle.json_spell.specs.declared.judging.Judgement.TheVariants as judgements
use Rattle.json_spell.specs.Machine.{before}
use Rattle.json_spell.proofs.Turned.{no_memory}
use Rattle.json_spell.proofs.Judged.{judged_json, judged_not, judged_deep, told_json}
use Rattle.json_spell.proofs.judging.judge_text.Goals as goal

pub overflow_sub-result : goal.overflow_sub-result
overflow_sub-result c = (judged_not c.args.text.now c.in-Err-Not.left (rw c.in-Err-Not.field-0-is at c.in-Err-Not.ensures)).0

pub overflow_sub-result-in-Err-Deep : goal.overflow_sub-result-in-Err-Deep
overflow_sub-result-in-Err-Deep c = (judged_deep c.args.text.now c.in-Err-Deep.left (rw c.in-Err-Deep.field-0-is at c.in-Err-Deep.ensures)).0

pub unreachable-requires : goal.unreachable-requires
unreachable-requires c = no_memory c.args.text.now (before []) (rw c.in-Err-NoMemory.field-0-is at c.in-Err-NoMemory.ensures)

pub returns-in-Ok-clause-answer : goal.returns-in-Ok-clause-answer
returns-in-Ok-clause-answer c = judged_json c.args.text.now c.in-Ok.ensures

pub returns-in-Err-Not-clause-answer : goal.returns-in-Err-Not-clause-answer
returns-in-Err-Not-clause-answer c = (judged_not c.args.text.now c.in-Err-Not.left (rw c.in-Err-Not.field-0-is at c.in-Err-Not.ensures)).1

pub returns-in-Err-Not-clause-only : goal.returns-in-Err-Not-clause-only
returns-in-Err-Not-clause-only c =
    told_json c.args.text.now (judgements.Not (length c.args.text.now - c.in-Err-Not.left)) (judged_not c.args.text.now c.in-Err-Not.left (rw c.in-Err-Not.field-0-is at c.in-Err-Not.ensures)).1

pub returns-in-Err-Deep-clause-answer : goal.returns-in-Err-Deep-clause-answer
returns-in-Err-Deep-clause-answer c = (judged_deep c.args.text.now c.in-Err-Deep.left (rw c.in-Err-Deep.field-0-is at c.in-Err-Deep.ensures)).1

pub returns-in-Err-Deep-clause-only : goal.returns-in-Err-Deep-clause-only
returns-in-Err-Deep-clause-only c =
    told_json c.args.text.now (judgements.Deep (length c.args.text.now - c.in-Err-Deep.left)) (judged_deep c.args.text.now c.in-Err-Deep.left (rw c.in-Err-Deep.field-0-is at c.in-Err-Deep.ensures)).1
