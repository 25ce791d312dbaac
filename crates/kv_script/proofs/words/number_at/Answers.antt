use Rattle.std.proofs.Common.{arith}
use Rattle.kv_script.proofs.Numbers.{begins, is_text, parsed, not_parsed, spelled}
use Rattle.kv_script.proofs.words.number_at.Goals as goal

pub returns-then-not-begins_as_number : goal.returns-then-not-begins_as_number
returns-then-not-begins_as_number c n w =
    let b = begins c.args.word.now n w in
    let begun = c.begins_as_number.ensures.1 (b.unsigned, b.unpadded) in
    cc

pub returns-in_default : goal.returns-in_default
returns-in_default c n w = c.in_default.ensures.cases.0 (is_text c.args.word.now n w)

pub returns-then-number-lt-NUMBER_BOUND : goal.returns-then-number-lt-NUMBER_BOUND
returns-then-number-lt-NUMBER_BOUND c =
    let begun = c.begins_as_number.ensures.0 c.if-not-begins_as_number.false in
    spelled c.args.word.now c.in-Ok.text.now c.in-Ok.ensures.cases.0 c.in-Ok-parse.number c.parse.result c.in-Ok-parse.is c.parse.ensures.value.0
    (record { unsigned = begun.0; unpadded = begun.1 })
    c.if-number-lt-NUMBER_BOUND.true

pub returns-else-number-lt-NUMBER_BOUND : goal.returns-else-number-lt-NUMBER_BOUND
returns-else-number-lt-NUMBER_BOUND c n w =
    let number = w.number in
    let one = parsed c.args.word.now c.in-Ok.text.now c.in-Ok.ensures.cases.0 c.in-Ok-parse.number n c.parse.result c.in-Ok-parse.is c.parse.ensures.value.0 w in
    omega arith

pub returns-in_default-parse : goal.returns-in_default-parse
returns-in_default-parse c n w =
    not_parsed c.args.word.now c.in-Ok.text.now c.in-Ok.ensures.cases.0 n c.in_default-parse.field-0 c.parse.result c.in_default-parse.is c.parse.ensures.value.0 w
