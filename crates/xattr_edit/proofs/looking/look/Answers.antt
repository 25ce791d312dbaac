use Rattle.std.proofs.Common.{◌≡◌, ℕ, List, Bor, Result, Ok, Err, ap, subst, sym, ◌∙◌}
use Rattle.std.proofs.lemmas.Result.{err_from_is_err_and}
use Rattle.doc_model.specs.declared.status.Refused.{Refused}
use Rattle.json_model.specs.declared.asked.Part.{Part}
use Rattle.json_model.specs.Paths.{ReadsPath}
use Rattle.subdoc_edit.specs.declared.looking.Piece.{Piece}
use Rattle.xattr_step.specs.Answers.{attribute_of}
use Rattle.xattr_edit.specs.Telling.{FindsIn}
use Rattle.xattr_edit.proofs.Steps.{path_read, look_path, look_name, look_told}
use Rattle.xattr_edit.proofs.looking.look.Goals as goal

pub returns-in_err-parts : goal.returns-in_err-parts
returns-in_err-parts c pairs is =
    let p = err_from_is_err_and c.from_residual.result c.from_residual.ensures.1 in
    subst (λ (r : Result Piece Refused). FindsIn c.args.opcode pairs c.args.object.now c.args.path.now r) (sym (p.1 ∙ ap Err p.2))
    (look_path (λ (parts : List Part). ReadsPath c.args.path.now (Ok parts)) c.args.opcode pairs c.args.object.now c.args.path.now c.in_err-parts.field-0.0 c.in_err-parts.ensures)

pub returns-in_err-_name : goal.returns-in_err-_name
returns-in_err-_name c pairs is =
    let p = err_from_is_err_and c.from_residual-in_err-_name.result c.from_residual-in_err-_name.ensures.1 in
    let parts = c.parts-2.result.now in
    let reads : ReadsPath c.args.path.now (Ok parts) = subst (λ (ps : List Part). ReadsPath c.args.path.now (Ok ps)) (sym c.parts-2.ensures) c.in_ok-parts.ensures in
    subst (λ (r : Result Piece Refused). FindsIn c.args.opcode pairs c.args.object.now c.args.path.now r) (sym (p.1 ∙ ap Err p.2))
    (look_name (λ (name : Bor (List ℕ)). attribute_of parts ≡ Ok name.now) c.args.opcode pairs c.args.object.now c.args.path.now parts c.in_err-_name.field-0.0 reads c.in_err-_name.ensures)

pub returns : goal.returns
returns c pairs is =
    let parts = c.parts-2.result.now in
    let reads : ReadsPath c.args.path.now (Ok parts) = subst (λ (ps : List Part). ReadsPath c.args.path.now (Ok ps)) (sym c.parts-2.ensures) c.in_ok-parts.ensures in
    look_told c.args.opcode pairs c.args.object.now c.args.path.now c.in_ok-_name._name.now c.look_judged.result (path_read c.args.path.now parts (Ok c.in_ok-_name._name.now) reads c.in_ok-_name.ensures) is
    c.look_judged.ensures.found c.look_judged.ensures.refused
