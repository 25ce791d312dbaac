use Rattle.std.proofs.Common.{◌≡◌, length, get_or, ap, ◌∙◌, subst, rules, arith}
use Rattle.std.specs.Char.{digit_value}
use Rattle.manifest_rules.proofs.Hex.{Seen, room, one_more, whole}
use Rattle.manifest_rules.proofs.reading.hex_number.Goals as goal

pub overflow_mul-number : goal.overflow_mul-number
overflow_mul-number c = omega (arith, room c.args.text.now c.loop-byte.byte-index c.loop-byte.number 0 c.loop-byte.invariant c.loop-byte-test.true (omega arith) (omega arith))

pub overflow_add-number : goal.overflow_add-number
overflow_add-number c =
    omega (arith, room c.args.text.now c.loop-byte.byte-index c.loop-byte.number c.in-Some.digit c.loop-byte.invariant c.loop-byte-test.true (omega arith) (omega (arith, c.in-Some.ensures.value.0, c.in-Some.ensures.value.1)))

pub loop-byte-preserved : goal.loop-byte-preserved
loop-byte-preserved c =
    let is : c.from-in-Some.result ≡ digit_value (get_or c.args.text.now c.loop-byte.byte-index 0) = c.from-in-Some.ensures ∙ c.in-Some.ensures.value.1 ∙ ap digit_value c.from.ensures in
    one_more c.args.text.now c.loop-byte.byte-index c.loop-byte.number c.from-in-Some.result c.loop-byte.invariant c.loop-byte-test.true
    (omega (arith, c.from-in-Some.ensures, c.in-Some.ensures.value.0, c.in-Some.ensures.value.1)) is

pub returns : goal.returns
returns c =
    let end : c.loop-byte.byte-index ≡ length c.args.text.now = omega arith in
    whole c.args.most c.args.text.now c.loop-byte.number (search rules) (omega arith) (subst (λ i. Seen c.args.text.now i c.loop-byte.number) end c.loop-byte.invariant)
