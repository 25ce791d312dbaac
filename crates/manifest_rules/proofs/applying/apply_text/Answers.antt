use Rattle.std.proofs.Common.{◌≡◌, true, Ok, refl, sym, ap, ap₂, ◌∙◌}
use Rattle.std.proofs.lemmas.Result.{err_from_is_err_and}
use Rattle.manifest_rules.specs.State.{is_kept}
use Rattle.manifest_rules.specs.Applying.{step_taken}
use Rattle.manifest_rules.proofs.Outcomes.{not_read, text_comes, text_refused, same_parts}
use Rattle.manifest_rules.proofs.Runs.{kept_taken}
use Rattle.manifest_rules.proofs.applying.apply_text.Goals as goal

pub returns-in_err-uid-clause-refused : goal.returns-in_err-uid-clause-refused
returns-in_err-uid-clause-refused c =
    let p = err_from_is_err_and c.from_residual.result c.from_residual.ensures.1 in
    rw (p.1, p.2) (not_read c.args.old.now c.args.text.now c.in_err-uid.field-0.0 c.in_err-uid.ensures.refused)

pub returns-in_err-taken-clause-refused : goal.returns-in_err-taken-clause-refused
returns-in_err-taken-clause-refused c =
    let p = err_from_is_err_and c.from_residual-in_err-taken.result c.from_residual-in_err-taken.ensures.1 in
    let read = c.in_ok-uid in
    rw (p.1, p.2)
    (text_refused c.args.old.now c.args.text.now read.field-0 read.field-0.uid read.field-0.scopes c.as_slice.result.now c.in_err-taken.field-0.0 read.ensures.found refl refl c.as_slice.ensures c.in_err-taken.ensures.refused)

pub returns-in_ok-old-in-Some-clause-step : goal.returns-in_ok-old-in-Some-clause-step
returns-in_ok-old-in-Some-clause-step c =
    let old = c.args.old.now in
    let read = c.in_ok-uid in
    text_comes old c.args.text.now read.field-0 read.field-0.uid read.field-0.scopes c.as_slice.result.now c.in_ok-taken.field-0 read.ensures.found refl refl c.as_slice.ensures c.in_ok-taken.ensures.taken
    ∙ ap (λ o. Ok (step_taken old read.field-0.uid read.field-0.scopes o)) c.in-Some.is
    ∙ ap (λ m. Ok (record { after = m; dropped = c.in-Some.taken.dropped; changed = true })) (sym c.in_ok-old-in-Some.ensures)

pub returns-in_ok-old-in-Some-clause-kept : goal.returns-in_ok-old-in-Some-clause-kept
returns-in_ok-old-in-Some-clause-kept c = λ kept.
    let old = c.args.old.now in
    let read = c.in_ok-uid in
    ap is_kept c.in_ok-old-in-Some.ensures
    ∙ kept_taken old read.field-0.uid read.field-0.scopes c.in-Some.taken kept read.ensures.found.fits
    (same_parts old read.field-0.uid read.field-0.uid c.as_slice.result.now read.field-0.scopes c.in_ok-taken.field-0 c.in-Some.taken refl c.as_slice.ensures c.in-Some.is c.in_ok-taken.ensures.taken)

pub returns-in-None-clause-step : goal.returns-in-None-clause-step
returns-in-None-clause-step c =
    let old = c.args.old.now in
    let read = c.in_ok-uid in
    text_comes old c.args.text.now read.field-0 read.field-0.uid read.field-0.scopes c.as_slice.result.now c.in_ok-taken.field-0 read.ensures.found refl refl c.as_slice.ensures c.in_ok-taken.ensures.taken
    ∙ ap (λ o. Ok (step_taken old read.field-0.uid read.field-0.scopes o)) c.in-None.is
    ∙ ap₂ (λ d b. Ok (record { after = old; dropped = d; changed = b })) (sym c.nothing_dropped.ensures.collections) (sym c.nothing_dropped.ensures.changed)
