use Rattle.std.proofs.Common.{sym, subst}
use Rattle.vb_log.specs.declared.limits.TheConstants.{GREATEST_CAS, GREATEST_POSITION}
use Rattle.vb_log.specs.Faults.{IsBroken}
use Rattle.vb_log.specs.Layout.{number, eight}
use Rattle.vb_log.specs.Spelling.{what_layout}
use Rattle.vb_log.specs.Stored.{stored_layout, StoredFront}
use Rattle.vb_log.proofs.Layouts.{leads_on, number_leads, broken_behind}
use Rattle.vb_log.proofs.Pieces.{handed, key_leads}
use Rattle.vb_log.proofs.StoredBytes.{stored_found}
use Rattle.vb_log.proofs.stored.stored_at.Goals as goal

pub returns-in_err-key-clause-broken : goal.returns-in_err-key-clause-broken
returns-in_err-key-clause-broken c =
    λ next. handed c.from_residual.result c.in_err-key.field-0.0 (IsBroken (stored_layout next) c.args.bytes.now) c.from_residual.ensures.1
    (c.in_err-key.ensures.broken (number eight 1 GREATEST_POSITION (λ seqno. what_layout GREATEST_CAS next)))

pub returns-in_err-seqno-clause-broken : goal.returns-in_err-seqno-clause-broken
returns-in_err-seqno-clause-broken c =
    λ next. handed c.from_residual-in_err-seqno.result c.in_err-seqno.field-0.0 (IsBroken (stored_layout next) c.args.bytes.now) c.from_residual-in_err-seqno.ensures.1
    (let change = what_layout GREATEST_CAS next in
    broken_behind (stored_layout next) c.args.bytes.now (number eight 1 GREATEST_POSITION (λ seqno. change)) c.in_ok-key.behind_key.now c.in_err-seqno.field-0.0
    (key_leads (number eight 1 GREATEST_POSITION (λ seqno. change)) c.args.bytes.now c.in_ok-key.key c.in_ok-key.behind_key.now c.in_ok-key.ensures.found)
    (c.in_err-seqno.ensures.broken (λ seqno. change)))

pub returns-in_err-what-clause-broken : goal.returns-in_err-what-clause-broken
returns-in_err-what-clause-broken c =
    λ next. handed c.from_residual-in_err-what.result c.in_err-what.field-0.0 (IsBroken (stored_layout next) c.args.bytes.now) c.from_residual-in_err-what.ensures.1
    (let change = what_layout GREATEST_CAS next in
    broken_behind (stored_layout next) c.args.bytes.now change c.in_ok-seqno.behind_seqno.now c.in_err-what.field-0.0
    (leads_on (stored_layout next) c.args.bytes.now (number eight 1 GREATEST_POSITION (λ seqno. change)) c.in_ok-key.behind_key.now change c.in_ok-seqno.behind_seqno.now
    (key_leads (number eight 1 GREATEST_POSITION (λ seqno. change)) c.args.bytes.now c.in_ok-key.key c.in_ok-key.behind_key.now c.in_ok-key.ensures.found)
    (number_leads eight 1 GREATEST_POSITION (λ seqno. change) c.in_ok-key.behind_key.now c.in_ok-seqno.seqno c.in_ok-seqno.behind_seqno.now c.in_ok-seqno.ensures.found))
    (c.in_err-what.ensures.broken next))

pub returns-clause-found : goal.returns-clause-found
returns-clause-found c =
    subst (λ w. StoredFront c.args.bytes.now (record { key = c.in_ok-key.key; seqno = c.in_ok-seqno.seqno; what = w }) c.in_ok-what.rest.now) (sym c.numbered-what.ensures)
    (stored_found c.args.bytes.now c.in_ok-key.key c.in_ok-key.behind_key.now c.in_ok-seqno.seqno c.in_ok-seqno.behind_seqno.now c.in_ok-what.what c.in_ok-what.rest.now
    c.in_ok-key.ensures.found c.in_ok-seqno.ensures.found c.in_ok-what.ensures.found)
