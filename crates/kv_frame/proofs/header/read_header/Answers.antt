use Rattle.std.proofs.Common.{sym, refl, ◌∙◌, arith}
use Rattle.kv_frame.proofs.HeaderLaws.{fields_short, fields_first, header_reads, lengths_bad, body_bad, header_good}
use Rattle.kv_frame.proofs.header.read_header.Goals as goal

pub overflow_sub-result : goal.overflow_sub-result
overflow_sub-result c =
    let h = fields_short c.args.bytes.now (sym c.in-None.ensures) in
    omega arith

pub returns-in-None : goal.returns-in-None
returns-in-None c =
    let h = fields_short c.args.bytes.now (sym c.in-None.ensures) in
    (omega arith, omega arith)

pub returns-in-None-magic_of : goal.returns-in-None-magic_of
returns-in-None-magic_of c =
    let h = fields_first c.args.bytes.now c.in-Some.fields c.in-Some.field-0-1.now (λ i. omega (arith, c.type_inv.bytes i)) (sym c.in-Some.ensures) in
    (h.0, refl, λ magic has. c.in-None-magic_of.ensures magic has.of_side (sym h.1 ∙ has.first))

pub returns-then-header : goal.returns-then-header
returns-then-header c =
    let r = header_reads c.args.side c.args.bytes.now c.in-Some.fields c.in-Some.field-0-1.now c.in-Some-magic_of.magic c.header_from-header.result
    (λ i. omega (arith, c.type_inv.bytes i)) (sym c.in-Some.ensures) c.in-Some-magic_of.ensures.0 c.in-Some-magic_of.ensures.1 c.header_from-header.ensures in
    lengths_bad c.args.side c.args.bytes.now c.header_from-header.result r c.if-header.true

pub returns-then-header-gt-BODY_LIMIT : goal.returns-then-header-gt-BODY_LIMIT
returns-then-header-gt-BODY_LIMIT c =
    let r = header_reads c.args.side c.args.bytes.now c.in-Some.fields c.in-Some.field-0-1.now c.in-Some-magic_of.magic c.header_from-header.result
    (λ i. omega (arith, c.type_inv.bytes i)) (sym c.in-Some.ensures) c.in-Some-magic_of.ensures.0 c.in-Some-magic_of.ensures.1 c.header_from-header.ensures in
    body_bad c.args.side c.args.bytes.now c.header_from-header.result r c.if-header-gt-BODY_LIMIT.true

pub returns : goal.returns
returns c =
    let r = header_reads c.args.side c.args.bytes.now c.in-Some.fields c.in-Some.field-0-1.now c.in-Some-magic_of.magic c.header_from-header.result
    (λ i. omega (arith, c.type_inv.bytes i)) (sym c.in-Some.ensures) c.in-Some-magic_of.ensures.0 c.in-Some-magic_of.ensures.1 c.header_from-header.ensures in
    header_good c.args.side c.args.bytes.now c.header_from-header.result r c.if-header.false c.if-header-gt-BODY_LIMIT.false
