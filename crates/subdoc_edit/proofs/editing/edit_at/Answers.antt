use Rattle.std.proofs.Common.{List, Result, Ok, Err, sym, ap, subst, ◌∙◌}
use Rattle.std.proofs.lemmas.Result.{err_from_is_err_and}
use Rattle.doc_model.specs.declared.status.Refused.{Refused}
use Rattle.json_model.specs.declared.asked.Part.{Part}
use Rattle.json_model.specs.Order.{takes}
use Rattle.subdoc_edit.specs.declared.editing.Edited.{Edited}
use Rattle.subdoc_edit.specs.Editing.{TellsEdit}
use Rattle.subdoc_edit.specs.Planning.{DecidesGiven}
use Rattle.subdoc_edit.proofs.Edits.{form_not, value_not, place_not, planned, told}
use Rattle.subdoc_edit.proofs.editing.edit_at.Goals as goal

pub returns-then-not-takes : goal.returns-then-not-takes
returns-then-not-takes c =
    let s = c.in_ok-check_text.ensures in
    form_not c.args.edit c.args.several c.args.text.now c.args.path.now c.args.value.now c.in_ok-path.path s.0 (record { reads = c.in_ok-path.ensures; is = s.1 })
    (ap (takes c.args.edit) (sym c.parts.ensures) ∙ sym c.takes.ensures ∙ c.if-not-takes.true)

pub returns-in_err-given : goal.returns-in_err-given
returns-in_err-given c =
    let s = c.in_ok-check_text.ensures in
    let p = err_from_is_err_and c.from_residual-in_err-given.result c.from_residual-in_err-given.ensures.1 in
    subst (λ (r : Result Edited Refused). TellsEdit c.args.edit c.args.several c.args.text.now c.args.path.now c.args.value.now r) (sym (p.1 ∙ ap Err p.2))
    (value_not c.args.edit c.args.several c.args.text.now c.args.path.now c.args.value.now c.in_ok-path.path s.0 c.in_err-given.field-0.0 (record { reads = c.in_ok-path.ensures; is = s.1 })
    (ap (takes c.args.edit) (sym c.parts.ensures) ∙ sym c.takes.ensures ∙ c.if-not-takes.false) c.in_err-given.ensures)

pub returns-in_err-plan : goal.returns-in_err-plan
returns-in_err-plan c =
    let s = c.in_ok-check_text.ensures in
    let p = err_from_is_err_and c.from_residual-in_err-plan.result c.from_residual-in_err-plan.ensures.1 in
    subst (λ (r : Result Edited Refused). TellsEdit c.args.edit c.args.several c.args.text.now c.args.path.now c.args.value.now r) (sym (p.1 ∙ ap Err p.2))
    (place_not c.args.edit c.args.several c.args.text.now c.args.path.now c.args.value.now c.in_ok-path.path s.0 c.in_ok-given.given c.in_err-plan.field-0.0 (record { reads = c.in_ok-path.ensures; is = s.1 })
    (ap (takes c.args.edit) (sym c.parts.ensures) ∙ sym c.takes.ensures ∙ c.if-not-takes.false) c.in_ok-given.ensures
    (subst (λ (ps : List Part). DecidesGiven c.args.edit c.args.several c.args.text.now c.args.value.now ps c.in_ok-given.given s.0 (Err c.in_err-plan.field-0.0)) c.parts-2.ensures (c.in_err-plan.ensures s.0 s.1)))

pub finish-requires : goal.finish-requires
finish-requires c =
    let s = c.in_ok-check_text.ensures in
    planned c.args.edit c.args.several c.args.text.now c.args.value.now c.parts-2.result.now s.0 c.in_ok-given.given c.in_ok-plan.plan c.in_ok-given.ensures (c.in_ok-plan.ensures s.0 s.1)

pub returns : goal.returns
returns c =
    let s = c.in_ok-check_text.ensures in
    told c.args.edit c.args.several c.args.text.now c.args.path.now c.args.value.now c.in_ok-path.path s.0 c.in_ok-given.given c.in_ok-plan.plan c.finish.result (record { reads = c.in_ok-path.ensures; is = s.1 })
    (ap (takes c.args.edit) (sym c.parts.ensures) ∙ sym c.takes.ensures ∙ c.if-not-takes.false) c.in_ok-given.ensures
    (subst (λ (ps : List Part). DecidesGiven c.args.edit c.args.several c.args.text.now c.args.value.now ps c.in_ok-given.given s.0 (Ok c.in_ok-plan.plan)) c.parts-2.ensures (c.in_ok-plan.ensures s.0 s.1)) c.finish.ensures
