use Rattle.std.proofs.Common.{◌≡◌, Some, option_map, sym, ap, ◌∙◌, arith}
use Rattle.kv_edge.specs.Fields.{bytes_at}
use Rattle.repl_wire.proofs.Judged.{whole_found, wrong_found}
use Rattle.repl_wire.proofs.decoding.whole_with.Goals as goal

pub returns-in-Ok : goal.returns-in-Ok
returns-in-Ok c =
    let taken : bytes_at c.args.head.size c.args.rest.now ≡ Some (c.in-Some.body.now, c.in-Some.field-0-1.now) = sym c.slice_at.ensures ∙ ap (option_map (λ x. (x.0.now, x.1.now))) c.in-Some.is in
    whole_found c.args.bytes.now c.args.head c.args.rest.now c.in-Some.body.now c.in-Some.field-0-1.now c.in-Ok.message c.requires (λ i. omega (arith, c.type_inv.rest i)) taken c.in-Ok.ensures.found

pub returns-in-Err-Broken : goal.returns-in-Err-Broken
returns-in-Err-Broken c =
    let taken : bytes_at c.args.head.size c.args.rest.now ≡ Some (c.in-Some.body.now, c.in-Some.field-0-1.now) = sym c.slice_at.ensures ∙ ap (option_map (λ x. (x.0.now, x.1.now))) c.in-Some.is in
    let broken = rw c.in-Err-Broken.field-0-is at c.in-Err-Broken.ensures.broken in
    rw c.in-Err-Broken.field-0-is (wrong_found c.args.bytes.now c.args.head c.args.rest.now c.in-Some.body.now c.in-Some.field-0-1.now c.in-Err-Broken.left c.requires (λ i. omega (arith, c.type_inv.rest i)) taken broken)
