use Rattle.std.proofs.Common.{◌≡◌, Some, option_map, sym, ap, ◌∙◌, arith}
use Rattle.std.specs.Int.{w64}
use Rattle.kv_edge.specs.Fields.{number_at}
use Rattle.repl_wire.proofs.OneNumber.{eight_there}
use Rattle.repl_wire.proofs.numbers.number_at.Goals as goal

pub returns-in-Some-clause-found : goal.returns-in-Some-clause-found
returns-in-Some-clause-found c =
    let number : number_at w64 c.args.bytes.now ≡ Some (c.in-Some.found, c.in-Some.rest.now) = sym c.u64_at.ensures ∙ ap (option_map (λ x. (x.0, x.1.now))) c.in-Some.is in
    eight_there c.args.bytes.now c.in-Some.found c.in-Some.rest.now (λ i. omega (arith, c.type_inv.bytes i)) number
