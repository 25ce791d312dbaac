use Rattle.std.proofs.Common.{true, ◌≡◌, sym, ap, ◌∙◌}
use Rattle.manifest_rules.specs.State.{is_kept}
use Rattle.manifest_rules.proofs.Outcomes.{same_parts}
use Rattle.manifest_rules.proofs.Runs.{kept_taken}
use Rattle.manifest_rules.proofs.applying.apply.Goals as goal

pub returns-in-Some-clause-kept : goal.returns-in-Some-clause-kept
returns-in-Some-clause-kept c = λ kept.
    let old = c.args.old.now in
    let new = c.args.new in
    ap is_kept c.with_dropped.ensures
    ∙ kept_taken old new.uid new.scopes c.in-Some.taken kept c.uid.ensures.fits
    (same_parts old c.uid.result new.uid c.scopes.result.now new.scopes c.in_ok-taken.field-0 c.in-Some.taken c.uid.ensures.value c.scopes.ensures c.in-Some.is c.in_ok-taken.ensures.taken)
