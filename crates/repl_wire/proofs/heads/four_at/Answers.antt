use Rattle.std.proofs.Common.{◌≡◌, Some, option_map, sym, ap, ◌∙◌, arith}
use Rattle.std.specs.Int.{w32}
use Rattle.kv_edge.specs.Fields.{number_at}
use Rattle.repl_wire.proofs.OneNumber.{four_there}
use Rattle.repl_wire.proofs.heads.four_at.Goals as goal

pub returns-in-Some : goal.returns-in-Some
returns-in-Some c =
    let number : number_at w32 c.args.bytes.now ≡ Some (c.in-Some.found, c.in-Some.rest.now) = sym c.u32_at.ensures ∙ ap (option_map (λ x. (x.0, x.1.now))) c.in-Some.is in
    four_there c.args.bytes.now c.in-Some.found c.in-Some.rest.now (λ i. omega (arith, c.type_inv.bytes i)) number
