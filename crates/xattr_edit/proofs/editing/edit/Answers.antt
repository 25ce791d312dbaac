use Rattle.std.proofs.Common.{◌≡◌, ℕ, List, Bor, Result, Ok, Err, ap, subst, sym, ◌∙◌}
use Rattle.std.proofs.lemmas.Result.{err_from_is_err_and}
use Rattle.std.specs.Option.{option_copied}
use Rattle.doc_model.specs.declared.status.Refused.{Refused}
use Rattle.json_model.specs.declared.asked.Part.{Part}
use Rattle.json_model.specs.Paths.{ReadsPath}
use Rattle.xattr_body.specs.Pairs.{pairs_in}
use Rattle.xattr_step.specs.Answers.{attribute_of}
use Rattle.xattr_edit.specs.declared.editing.EditedSection.{EditedSection}
use Rattle.xattr_edit.specs.Telling.{EditsIn}
use Rattle.xattr_edit.proofs.Steps.{name_read, edit_path, edit_name, edit_not_made, edit_made, begins, left_is}
use Rattle.xattr_edit.proofs.editing.edit.Goals as goal

pub returns-in_err-parts : goal.returns-in_err-parts
returns-in_err-parts c =
    let p = err_from_is_err_and c.from_residual.result c.from_residual.ensures.1 in
    subst (λ (r : Result EditedSection Refused). EditsIn c.args.opcode c.args.several c.args.section.now c.args.path.now c.args.value.now r) (sym (p.1 ∙ ap Err p.2))
    (edit_path (λ (parts : List Part). ReadsPath c.args.path.now (Ok parts)) c.args.opcode c.args.several c.args.section.now c.args.path.now c.args.value.now c.in_err-parts.field-0.0 c.in_err-parts.ensures)

pub returns-in_err-name : goal.returns-in_err-name
returns-in_err-name c =
    let p = err_from_is_err_and c.from_residual-in_err-name.result c.from_residual-in_err-name.ensures.1 in
    let parts = c.parts-2.result.now in
    let reads : ReadsPath c.args.path.now (Ok parts) = subst (λ (ps : List Part). ReadsPath c.args.path.now (Ok ps)) (sym c.parts-2.ensures) c.in_ok-parts.ensures in
    subst (λ (r : Result EditedSection Refused). EditsIn c.args.opcode c.args.several c.args.section.now c.args.path.now c.args.value.now r) (sym (p.1 ∙ ap Err p.2))
    (edit_name (λ (name : Bor (List ℕ)). attribute_of parts ≡ Ok name.now) c.args.opcode c.args.several c.args.section.now c.args.path.now c.args.value.now parts c.in_err-name.field-0.0 reads c.in_err-name.ensures)

pub returns-in_err-edited : goal.returns-in_err-edited
returns-in_err-edited c =
    let name =
    name_read c.args.path.now c.in_ok-parts.parts c.parts-2.result.now c.in_ok-name.name.now c.in_ok-parts.ensures c.parts-2.ensures c.in_ok-name.ensures in
    let p = err_from_is_err_and c.from_residual-in_err-edited.result c.from_residual-in_err-edited.ensures.1 in
    subst (λ (r : Result EditedSection Refused). EditsIn c.args.opcode c.args.several c.args.section.now c.args.path.now c.args.value.now r) (sym (p.1 ∙ ap Err p.2))
    (edit_not_made c.args.opcode c.args.several c.args.section.now c.args.path.now c.args.value.now c.in_ok-name.name.now c.in_err-edited.field-0.0 name c.in_err-edited.ensures)

pub returns : goal.returns
returns c =
    let name = c.in_ok-name.name.now in
    let leads = ap attribute_of (sym c.parts-2.ensures) ∙ c.in_ok-name.ensures in
    let found = c.text_at-found.ensures name (begins c.parts-3.result.now name (ap attribute_of c.parts-3.ensures ∙ leads)) in
    let left =
    left_is name c.in_ok-edited.edited.text c.as_slice.result.now (pairs_in c.args.section.now) c.in_ok-xattrs.xattrs c.update.new.xattrs (option_copied c.text_at-found.result) c.in_ok-update.ensures c.in_ok-xattrs.ensures found c.as_slice.ensures in
    edit_made c.args.opcode c.args.several c.args.section.now c.args.path.now c.args.value.now name c.in_ok-edited.edited c.update.new.xattrs c.spell.result
    (name_read c.args.path.now c.in_ok-parts.parts c.parts-2.result.now name c.in_ok-parts.ensures c.parts-2.ensures c.in_ok-name.ensures) c.in_ok-edited.ensures left c.spell.ensures
