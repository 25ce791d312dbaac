use Rattle.std.specs.Int.{w8}
use Rattle.std.proofs.Common.{◌≡◌, Some, None, option_map, sym, ap, ◌∙◌, refl, arith}
use Rattle.kv_edge.specs.Fields.{byte_at}
use Rattle.magma_store.proofs.Leads.{byte_found, short_broken, byte_short}
use Rattle.magma_store.proofs.fields.byte_at.Goals as goal

pub returns-in-Some-clause-found : goal.returns-in-Some-clause-found
returns-in-Some-clause-found c =
    let number : byte_at c.args.bytes.now ≡ Some (c.in-Some.number, c.in-Some.rest.now) = sym c.u8_at.ensures ∙ ap (option_map (λ x. (x.0, x.1.now))) c.in-Some.is in
    byte_found c.args.bytes.now c.in-Some.number c.in-Some.rest.now (λ i. omega (arith, c.type_inv.bytes i)) number

pub returns-in-None-clause-broken : goal.returns-in-None-clause-broken
returns-in-None-clause-broken c =
    let none : byte_at c.args.bytes.now ≡ None = sym c.u8_at.ensures ∙ ap (option_map (λ x. (x.0, x.1.now))) c.in-None.is in
    λ broken next. short_broken w8 broken next c.args.bytes.now 1 c.short.result c.short.ensures refl (byte_short c.args.bytes.now none)
