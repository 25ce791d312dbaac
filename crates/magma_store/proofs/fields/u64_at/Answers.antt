use Rattle.std.specs.Int.{w64}
use Rattle.std.proofs.Common.{◌≡◌, Some, None, option_map, sym, ap, ◌∙◌, refl, arith}
use Rattle.kv_edge.specs.Fields.{number_at}
use Rattle.kv_edge.proofs.Fields.{wide64}
use Rattle.magma_store.proofs.Leads.{field_found, short_broken, number_short}
use Rattle.magma_store.proofs.fields.u64_at.Goals as goal

pub returns-in-Some-clause-found : goal.returns-in-Some-clause-found
returns-in-Some-clause-found c =
    let number : number_at w64 c.args.bytes.now ≡ Some (c.in-Some.number, c.in-Some.rest.now) = sym c.u64_at.ensures ∙ ap (option_map (λ x. (x.0, x.1.now))) c.in-Some.is in
    field_found w64 wide64 c.args.bytes.now c.in-Some.number c.in-Some.rest.now (λ i. omega (arith, c.type_inv.bytes i)) number

pub returns-in-None-clause-broken : goal.returns-in-None-clause-broken
returns-in-None-clause-broken c =
    let none : number_at w64 c.args.bytes.now ≡ None = sym c.u64_at.ensures ∙ ap (option_map (λ x. (x.0, x.1.now))) c.in-None.is in
    λ broken next. short_broken w64 broken next c.args.bytes.now 8 c.short.result c.short.ensures refl (number_short w64 c.args.bytes.now none)
