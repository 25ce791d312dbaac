use Rattle.std.proofs.Common.{◌≡◌, ◌⊎◌, inl, inr, true, false, ◌++◌, ◌∷◌, [], Some, option_map, sym, ap, ◌∙◌, arith}
use Rattle.std.specs.Int.{w32}
use Rattle.kv_edge.specs.Fields.{IsBytes, number_at}
use Rattle.manifest_rules.specs.State.{are_rising}
use Rattle.manifest_rules.proofs.Gone.{among}
use Rattle.manifest_rules.proofs.Faults.{id_found, id_refused}
use Rattle.manifest_rules.proofs.state.id_at.Goals as goal
use Rattle.manifest_rules.proofs.state.id_at.Goals.{else-rises_to-via-then-rises_to+else-not-is_among_sorted, else-rises_to-via-else-rises_to}

pub returns-then-not-is_among_sorted : goal.returns-then-not-is_among_sorted
returns-then-not-is_among_sorted c =
    let number : number_at w32 c.args.bytes.now ≡ Some (c.in-Some.id, c.in-Some.rest.now) = sym c.u32_at.ensures ∙ ap (option_map (λ x. (x.0, x.1.now))) c.in-Some.is in
    let fits : IsBytes c.args.bytes.now = λ i. omega (arith, c.type_inv.bytes i) in
    id_found c.args.present.now c.args.before.now c.args.bytes.now c.in-Some.id c.in-Some.rest.now fits number c.requires.before c.requires.few
    (sym c.rises_to.ensures ∙ c.if-rises_to.true) (sym c.is_among_sorted.ensures ∙ c.if-not-is_among_sorted.true)

pub returns-else-rises_to : goal.returns-else-rises_to
returns-else-rises_to c =
    let number : number_at w32 c.args.bytes.now ≡ Some (c.in-Some.id, c.in-Some.rest.now) = sym c.u32_at.ensures ∙ ap (option_map (λ x. (x.0, x.1.now))) c.in-Some.is in
    let bad : (are_rising (c.args.before.now ++ c.in-Some.id ∷ []) ≡ false) ⊎ (among c.in-Some.id c.args.present.now ≡ true) = elim c.else-rises_to.branch [
      | else-rises_to-via-then-rises_to+else-not-is_among_sorted w ↦ inr (sym w.is_among_sorted.ensures ∙ w.if-not-is_among_sorted.false)
      | else-rises_to-via-else-rises_to w ↦ inl (sym c.rises_to.ensures ∙ w.if-rises_to.false)
    ] in
    id_refused c.args.present.now c.args.before.now c.args.bytes.now c.in-Some.id c.in-Some.rest.now number bad
