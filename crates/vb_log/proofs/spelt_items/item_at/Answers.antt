use Rattle.std.proofs.Common.{sym, subst}
use Rattle.vb_log.specs.Contents.{item_layout, last_key, may_follow, ItemAt}
use Rattle.vb_log.specs.Faults.{IsBroken}
use Rattle.vb_log.specs.Layout.{number, eight}
use Rattle.vb_log.specs.Spelling.{what_layout}
use Rattle.vb_log.proofs.Layouts.{leads_on, number_leads, broken_behind}
use Rattle.vb_log.proofs.Pieces.{handed}
use Rattle.vb_log.proofs.ItemBytes.{passing_key_leads, item_found}
use Rattle.vb_log.proofs.spelt_items.item_at.Goals as goal

pub returns-in_err-key-clause-broken : goal.returns-in_err-key-clause-broken
returns-in_err-key-clause-broken c =
    λ next. handed c.from_residual.result c.in_err-key.field-0.0 (IsBroken (item_layout c.args.manifest.now c.args.bounds (last_key c.args.before.now) next) c.args.bytes.now) c.from_residual.ensures.1
    (c.in_err-key.ensures.broken (λ key. number eight 1 c.args.bounds.last (λ seqno. what_layout c.args.bounds.cas (next key))))

pub returns-in_err-seqno-clause-broken : goal.returns-in_err-seqno-clause-broken
returns-in_err-seqno-clause-broken c =
    λ next. handed c.from_residual-in_err-seqno.result c.in_err-seqno.field-0.0 (IsBroken (item_layout c.args.manifest.now c.args.bounds (last_key c.args.before.now) next) c.args.bytes.now) c.from_residual-in_err-seqno.ensures.1
    (let change = what_layout c.args.bounds.cas (next c.in_ok-key.key) in
    broken_behind (item_layout c.args.manifest.now c.args.bounds (last_key c.args.before.now) next) c.args.bytes.now (number eight 1 c.args.bounds.last (λ seqno. change)) c.in_ok-key.behind_key.now c.in_err-seqno.field-0.0
    (passing_key_leads (may_follow c.args.manifest.now (last_key c.args.before.now)) (λ key. number eight 1 c.args.bounds.last (λ seqno. what_layout c.args.bounds.cas (next key))) c.args.bytes.now c.in_ok-key.key c.in_ok-key.behind_key.now c.in_ok-key.ensures.found.0 c.in_ok-key.ensures.found.1)
    (c.in_err-seqno.ensures.broken (λ seqno. change)))

pub returns-in_err-what-clause-broken : goal.returns-in_err-what-clause-broken
returns-in_err-what-clause-broken c =
    λ next. handed c.from_residual-in_err-what.result c.in_err-what.field-0.0 (IsBroken (item_layout c.args.manifest.now c.args.bounds (last_key c.args.before.now) next) c.args.bytes.now) c.from_residual-in_err-what.ensures.1
    (let change = what_layout c.args.bounds.cas (next c.in_ok-key.key) in
    broken_behind (item_layout c.args.manifest.now c.args.bounds (last_key c.args.before.now) next) c.args.bytes.now change c.in_ok-seqno.behind_seqno.now c.in_err-what.field-0.0
    (leads_on (item_layout c.args.manifest.now c.args.bounds (last_key c.args.before.now) next) c.args.bytes.now (number eight 1 c.args.bounds.last (λ seqno. change)) c.in_ok-key.behind_key.now change c.in_ok-seqno.behind_seqno.now
    (passing_key_leads (may_follow c.args.manifest.now (last_key c.args.before.now)) (λ key. number eight 1 c.args.bounds.last (λ seqno. what_layout c.args.bounds.cas (next key))) c.args.bytes.now c.in_ok-key.key c.in_ok-key.behind_key.now c.in_ok-key.ensures.found.0 c.in_ok-key.ensures.found.1)
    (number_leads eight 1 c.args.bounds.last (λ seqno. change) c.in_ok-key.behind_key.now c.in_ok-seqno.seqno c.in_ok-seqno.behind_seqno.now c.in_ok-seqno.ensures.found))
    (c.in_err-what.ensures.broken (next c.in_ok-key.key)))

pub returns-clause-found : goal.returns-clause-found
returns-clause-found c =
    subst (λ w. ItemAt c.args.manifest.now c.args.bounds (last_key c.args.before.now) c.args.bytes.now (record { key = c.in_ok-key.key; seqno = c.in_ok-seqno.seqno; what = w }) c.in_ok-what.rest.now) (sym c.numbered-what.ensures)
    (item_found c.args.manifest.now c.args.bounds (last_key c.args.before.now) c.args.bytes.now c.in_ok-key.key c.in_ok-key.behind_key.now c.in_ok-seqno.seqno c.in_ok-seqno.behind_seqno.now c.in_ok-what.what c.in_ok-what.rest.now
    c.in_ok-key.ensures.found.0 c.in_ok-key.ensures.found.1 c.in_ok-seqno.ensures.found c.in_ok-what.ensures.found)
