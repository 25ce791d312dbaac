use Rattle.std.proofs.Common.{List, [], ◌∷◌, ◌++◌, subst, sym, ap, ◌∙◌, Err}
use Rattle.json_model.specs.declared.asked.Part.{Part}
use Rattle.std.proofs.lemmas.Result.{err_from_is_err_and}
use Rattle.subdoc_path.proofs.Spelling.{Going, going_first, going_more, going_done, first_fails, going_fails, some_bytes, no_bytes}
use Rattle.subdoc_path.proofs.reading.parts_of.Goals as goal

pub returns-in_err-first : goal.returns-in_err-first
returns-in_err-first c =
    let p = err_from_is_err_and c.from_residual.result c.from_residual.ensures.1 in
    first_fails c.args.bytes.now c.in_err-first.field-0.0 c.from_residual.result (some_bytes c.args.bytes.now c.is_empty.result c.is_empty.ensures c.if-is_empty.false) c.in_err-first.ensures.part (p.1 ∙ ap Err p.2)

pub loop-rest-init : goal.loop-rest-init
loop-rest-init c =
    subst (λ (l : List Part). Going c.args.bytes.now l c.in_ok-first.behind.now) (sym (c.in_ok-push.ensures.ok ∙ ap (λ (l : List Part). l ++ c.in_ok-first.first ∷ []) c.new-parts.ensures))
    (going_first c.args.bytes.now c.in_ok-first.first c.in_ok-first.behind.now c.in_ok-first.ensures.part)

pub returns-in_err-part : goal.returns-in_err-part
returns-in_err-part c =
    let p = err_from_is_err_and c.from_residual-in_err-part.result c.from_residual-in_err-part.ensures.1 in
    going_fails c.args.bytes.now c.loop-rest.parts c.loop-rest.rest.now c.in_err-part.field-0.0 c.from_residual-in_err-part.result c.loop-rest.invariant
    (some_bytes c.loop-rest.rest.now c.is_empty-in-loop-rest.result c.is_empty-in-loop-rest.ensures c.loop-rest-test.true) c.in_err-part.ensures.part (p.1 ∙ ap Err p.2)

pub loop-rest-preserved : goal.loop-rest-preserved
loop-rest-preserved c =
    subst (λ (l : List Part). Going c.args.bytes.now l c.in_ok-part.behind.now) (sym c.in_ok-push-2.ensures.ok)
    (going_more c.args.bytes.now c.loop-rest.parts c.loop-rest.rest.now c.in_ok-part.part c.in_ok-part.behind.now c.loop-rest.invariant c.in_ok-part.ensures.part)

pub returns : goal.returns
returns c = going_done c.args.bytes.now c.loop-rest.parts c.loop-rest.rest.now c.loop-rest.invariant (no_bytes c.loop-rest.rest.now c.is_empty-in-loop-rest.result c.is_empty-in-loop-rest.ensures c.loop-rest-test.false)
