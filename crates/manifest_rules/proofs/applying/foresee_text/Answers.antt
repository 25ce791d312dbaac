use Rattle.std.proofs.Common.{◌≡◌, true, Ok, refl, sym, ap, ◌∙◌, subst}
use Rattle.std.proofs.lemmas.Result.{err_from_is_err_and}
use Rattle.manifest_rules.specs.Applying.{step_taken, Drops}
use Rattle.manifest_rules.proofs.Outcomes.{not_read, text_comes, text_refused}
use Rattle.manifest_rules.proofs.applying.foresee_text.Goals as goal

pub returns-in_err-uid-clause-refused : goal.returns-in_err-uid-clause-refused
returns-in_err-uid-clause-refused c =
    let p = err_from_is_err_and c.from_residual.result c.from_residual.ensures.1 in
    rw (p.1, p.2) (not_read c.args.old.now c.args.text.now c.in_err-uid.field-0.0 c.in_err-uid.ensures.refused)

pub returns-in_err-taken-clause-refused : goal.returns-in_err-taken-clause-refused
returns-in_err-taken-clause-refused c =
    let p = err_from_is_err_and c.from_residual-in_err-taken.result c.from_residual-in_err-taken.ensures.1 in
    let read = c.in_ok-uid in
    rw (p.1, p.2)
    (text_refused c.args.old.now c.args.text.now read.field-0 read.field-0.uid read.field-0.scopes c.as_slice.result.now c.in_err-taken.field-0.0 read.ensures.found refl refl c.as_slice.ensures c.in_err-taken.ensures.refused)

pub returns-in-Some-clause-step : goal.returns-in-Some-clause-step
returns-in-Some-clause-step c =
    let old = c.args.old.now in
    let read = c.in_ok-uid in
    let e = text_comes old c.args.text.now read.field-0 read.field-0.uid read.field-0.scopes c.as_slice.result.now c.in_ok-taken.field-0 read.ensures.found refl refl c.as_slice.ensures c.in_ok-taken.ensures.taken
    ∙ ap (λ o. Ok (step_taken old read.field-0.uid read.field-0.scopes o)) c.in-Some.is in
    subst (λ r. Drops r (record { collections = c.in-Some.taken.dropped; changed = true })) (sym e) (refl, refl)

pub returns-clause-step : goal.returns-clause-step
returns-clause-step c =
    let old = c.args.old.now in
    let read = c.in_ok-uid in
    let e = text_comes old c.args.text.now read.field-0 read.field-0.uid read.field-0.scopes c.as_slice.result.now c.in_ok-taken.field-0 read.ensures.found refl refl c.as_slice.ensures c.in_ok-taken.ensures.taken
    ∙ ap (λ o. Ok (step_taken old read.field-0.uid read.field-0.scopes o)) c.in-None.is in
    subst (λ r. Drops r c.nothing_dropped.result) (sym e) (sym c.nothing_dropped.ensures.collections, sym c.nothing_dropped.ensures.changed)
