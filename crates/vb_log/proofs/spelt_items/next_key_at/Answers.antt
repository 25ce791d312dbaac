use Rattle.std.proofs.Common.{sym, ◌∙◌}
use Rattle.vb_log.specs.Contents.{passing_key_layout, last_key, may_follow}
use Rattle.vb_log.specs.Faults.{IsBroken}
use Rattle.vb_log.proofs.Pieces.{handed}
use Rattle.vb_log.proofs.ItemBytes.{passing_refused, passing_broken}
use Rattle.vb_log.proofs.spelt_items.next_key_at.Goals as goal

pub returns-in_err-key-clause-broken : goal.returns-in_err-key-clause-broken
returns-in_err-key-clause-broken c =
    let test = may_follow c.args.manifest.now (last_key c.args.before.now) in
    λ next. handed c.from_residual.result c.in_err-key.field-0.0 (IsBroken (passing_key_layout test next) c.args.bytes.now) c.from_residual.ensures.1
    (passing_broken test next c.args.bytes.now c.in_err-key.field-0.0 c.in_err-key.ensures.broken)

pub returns-clause-broken : goal.returns-clause-broken
returns-clause-broken c =
    λ next. passing_refused (may_follow c.args.manifest.now (last_key c.args.before.now)) next c.args.bytes.now c.in_ok-key.key c.in_ok-key.rest.now c.in_ok-key.ensures.found
    (sym c.may_follow.ensures ∙ c.if-may_follow.false)
