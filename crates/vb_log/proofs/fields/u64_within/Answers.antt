use Rattle.std.proofs.Common.{◌≡◌, Some, option_map, sym, ap, ◌∙◌, arith}
use Rattle.std.specs.Int.{w64}
use Rattle.kv_edge.specs.Fields.{number_at}
use Rattle.vb_log.specs.Layout.{eight}
use Rattle.vb_log.proofs.Layouts.{number_found}
use Rattle.vb_log.proofs.fields.u64_within.Goals as goal

pub returns-then-number-most-clause-found : goal.returns-then-number-most-clause-found
returns-then-number-most-clause-found c =
    let number : number_at w64 c.args.bytes.now ≡ Some (c.in-Some.number, c.in-Some.rest.now) = sym c.u64_at.ensures ∙ ap (option_map (λ x. (x.0, x.1.now))) c.in-Some.is in
    number_found eight c.args.least c.args.most c.args.bytes.now c.in-Some.number c.in-Some.rest.now (λ i. omega (arith, c.type_inv.bytes i)) number (omega arith) (omega arith)
