use Rattle.vb_log.specs.Spelling.{parts_layout, entry_layout}
use Rattle.vb_log.proofs.Layouts.{byte_leads, broken_behind}
use Rattle.vb_log.proofs.Pieces.{handed}
use Rattle.vb_log.specs.Faults.{IsBroken}
use Rattle.vb_log.proofs.reading.entry_of.Goals as goal

pub returns-in_err-kind-clause-broken : goal.returns-in_err-kind-clause-broken
returns-in_err-kind-clause-broken c =
    handed c.from_residual.result c.in_err-kind.field-0.0 (IsBroken entry_layout c.args.bytes.now) c.from_residual.ensures.1
    (c.in_err-kind.ensures.broken parts_layout)

pub returns-in_err-entry-clause-broken : goal.returns-in_err-entry-clause-broken
returns-in_err-entry-clause-broken c =
    handed c.from_residual-in_err-entry.result c.in_err-entry.field-0.0 (IsBroken entry_layout c.args.bytes.now) c.from_residual-in_err-entry.ensures.1
    (broken_behind entry_layout c.args.bytes.now (parts_layout c.in_ok-kind.kind) c.in_ok-kind.parts.now c.in_err-entry.field-0.0
    (byte_leads 1 6 parts_layout c.args.bytes.now c.in_ok-kind.kind c.in_ok-kind.parts.now c.in_ok-kind.ensures.found)
    (c.in_err-entry.ensures.broken))
