use Rattle.vb_log.specs.declared.limits.TheConstants.{GREATEST_POSITION}
use Rattle.vb_log.specs.Layout.{end, eight}
use Rattle.vb_log.specs.Spelling.{position_layout}
use Rattle.vb_log.proofs.Layouts.{number_leads, broken_behind}
use Rattle.vb_log.proofs.Pieces.{handed}
use Rattle.vb_log.specs.Faults.{IsBroken}
use Rattle.vb_log.proofs.reading.position_of.Goals as goal

pub returns-in_err-of-clause-broken : goal.returns-in_err-of-clause-broken
returns-in_err-of-clause-broken c =
    handed c.from_residual.result c.in_err-of.field-0.0 (IsBroken position_layout c.args.bytes.now) c.from_residual.ensures.1
    (c.in_err-of.ensures.broken (λ of. end))

pub returns-in_err-ended-clause-broken : goal.returns-in_err-ended-clause-broken
returns-in_err-ended-clause-broken c =
    handed c.from_residual-in_err-ended.result c.in_err-ended.field-0.0 (IsBroken position_layout c.args.bytes.now) c.from_residual-in_err-ended.ensures.1
    (broken_behind position_layout c.args.bytes.now end c.in_ok-of.rest.now c.in_err-ended.field-0.0
    (number_leads eight 1 GREATEST_POSITION (λ of. end) c.args.bytes.now c.in_ok-of.of c.in_ok-of.rest.now c.in_ok-of.ensures.found)
    (c.in_err-ended.ensures.broken))
