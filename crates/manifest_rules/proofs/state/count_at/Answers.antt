use Rattle.std.proofs.Common.{◌≡◌, Some, option_map, sym, ap, ◌∙◌, arith}
use Rattle.std.specs.Int.{w32}
use Rattle.kv_edge.specs.Fields.{IsBytes, number_at}
use Rattle.manifest_rules.proofs.Faults.{count_found}
use Rattle.manifest_rules.proofs.state.count_at.Goals as goal

pub returns-then-count-limit : goal.returns-then-count-limit
returns-then-count-limit c =
    let number : number_at w32 c.args.bytes.now ≡ Some (c.in-Some.count, c.in-Some.rest.now) = sym c.u32_at.ensures ∙ ap (option_map (λ x. (x.0, x.1.now))) c.in-Some.is in
    let fits : IsBytes c.args.bytes.now = λ i. omega (arith, c.type_inv.bytes i) in
    count_found c.args.limit c.args.bytes.now c.in-Some.count c.in-Some.rest.now fits number c.if-count-limit.true
