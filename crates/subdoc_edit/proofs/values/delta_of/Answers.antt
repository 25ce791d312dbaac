use Rattle.subdoc_edit.proofs.GivenDelta.{no_digit, no_text, no_number, is_delta}
use Rattle.subdoc_edit.proofs.values.delta_of.Goals as goal

pub returns-then-not-begins_with_digit : goal.returns-then-not-begins_with_digit
returns-then-not-begins_with_digit c = no_digit c.args.value.now c.magnitude.result.now c.begins_with_digit.result c.magnitude.ensures c.begins_with_digit.ensures c.if-not-begins_with_digit.true

pub returns-in-Ok-parse : goal.returns-in-Ok-parse
returns-in-Ok-parse c =
    is_delta c.args.value.now c.in-Ok.text.now c.magnitude.result.now c.begins_with_digit.result c.in-Ok-parse.delta c.in-Ok.ensures.cases.0 c.in-Ok-parse.ensures.value.0 c.magnitude.ensures c.begins_with_digit.ensures c.if-not-begins_with_digit.false

pub returns-in-Err-parse : goal.returns-in-Err-parse
returns-in-Err-parse c = no_number c.args.value.now c.in-Ok.text.now c.in-Err-parse.field-0 c.in-Ok.ensures.cases.0 c.in-Err-parse.ensures.value.0

pub returns-in-Err : goal.returns-in-Err
returns-in-Err c = no_text c.args.value.now c.in-Err.ensures.cases.0
