use Rattle.std.proofs.Common.{◌≡◌, ℕ, List, [], ◌∷◌, ◌++◌, take, drop, length, ◌-◌, Err, ap, sym, subst, refl, arith, ◌∙◌}
use Rattle.kv_request.specs.declared.request.Spec.{Spec}
use Rattle.doc_step.specs.Parts.{edit_result, refused_at}
use Rattle.doc_model.specs.declared.status.Refused.{Refused}
use Rattle.doc_ops.specs.Edits.{drafted, MakesDoc}
use Rattle.doc_ops.proofs.Editing.{AreToMake, draft_value, draft_xattrs, one_made, one_refused, all_are_made, front, no_more, any_doc}
use Rattle.doc_ops.proofs.edits.edit_all.Goals as goal

pub returns-in-Err-Status : goal.returns-in-Err-Status
returns-in-Err-Status c doc b =
    let spec = c.spec-item.result in
    let others = take (length c.loop-rest.rest.now - 1) (drop 1 c.loop-rest.rest.now) in
    let left : AreToMake c.args.doc_flags c.args.begun.now c.args.specs.now (spec ∷ others) c.loop-rest.place c.loop-rest.draft c.loop-rest.told.items =
    subst (λ (r : List Spec). AreToMake c.args.doc_flags c.args.begun.now c.args.specs.now r c.loop-rest.place c.loop-rest.draft c.loop-rest.told.items)
    (front c.loop-rest.rest.now spec c.in-len1-up.len_at_least c.spec-item.is) c.loop-rest.invariant in
    one_refused c.args.doc_flags c.args.begun.now c.args.specs.now spec others c.loop-rest.place c.loop-rest.draft c.loop-rest.told.items c.in-Err-Status.status left
    (λ d e. subst (λ (r : Refused). MakesDoc spec c.args.doc_flags (drafted c.loop-rest.draft d) (Err r)) c.in-Err-Status.field-0-is (c.in-Err-Status.ensures (drafted c.loop-rest.draft d) (c.value_of-value.ensures ∙ draft_value c.args.begun.now c.loop-rest.draft d e) (c.xattrs_of-xattrs.ensures ∙ draft_xattrs c.args.begun.now c.loop-rest.draft d e))) doc b
    ∙ ap (refused_at c.loop-rest.place) (sym c.in-Err-Status.status-is)

pub loop-rest-preserved : goal.loop-rest-preserved
loop-rest-preserved c =
    let spec = c.spec-item.result in
    let others = take (length c.loop-rest.rest.now - 1) (drop 1 c.loop-rest.rest.now) in
    let left : AreToMake c.args.doc_flags c.args.begun.now c.args.specs.now (spec ∷ others) c.loop-rest.place c.loop-rest.draft c.loop-rest.told.items =
    subst (λ (r : List Spec). AreToMake c.args.doc_flags c.args.begun.now c.args.specs.now r c.loop-rest.place c.loop-rest.draft c.loop-rest.told.items)
    (front c.loop-rest.rest.now spec c.in-len1-up.len_at_least c.spec-item.is) c.loop-rest.invariant in
    let json = (c.in-Ok.ensures (any_doc c.value_of-value.result.now c.xattrs_of-xattrs.result.now) refl refl).0 in
    one_made c.args.doc_flags c.args.begun.now c.args.specs.now spec others c.loop-rest.place c.loop-rest.draft c.take_made-number.new.draft c.loop-rest.told.items c.add_number.new.out.items c.in-Ok.made left
    (λ d e. (c.in-Ok.ensures (drafted c.loop-rest.draft d) (c.value_of-value.ensures ∙ draft_value c.args.begun.now c.loop-rest.draft d e) (c.xattrs_of-xattrs.ensures ∙ draft_xattrs c.args.begun.now c.loop-rest.draft d e)).1)
    c.take_made-number.ensures.taken (c.take_made-number.ensures.json left.json json)
    (c.in_ok-add_number.ensures ∙ ap (λ number. c.loop-rest.told.items ++ edit_result c.loop-rest.place number) c.take_made-number.ensures.number)

pub returns : goal.returns
returns c doc b =
    let none : length c.loop-rest.rest.now ≡ 0 = omega (arith, c.in_default.len_below) in (
      all_are_made c.args.doc_flags c.args.begun.now c.args.specs.now c.loop-rest.place c.loop-rest.draft c.from_vec.result
          (subst (λ (t : List ℕ). AreToMake c.args.doc_flags c.args.begun.now c.args.specs.now [] c.loop-rest.place c.loop-rest.draft t) (sym c.from_vec.ensures)
          (subst (λ (r : List Spec). AreToMake c.args.doc_flags c.args.begun.now c.args.specs.now r c.loop-rest.place c.loop-rest.draft c.loop-rest.told.items) (no_more c.loop-rest.rest.now none) c.loop-rest.invariant)) doc b,
      c.loop-rest.invariant.json,
    )
