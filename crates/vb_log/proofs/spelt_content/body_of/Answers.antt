use Rattle.vb_log.specs.Contents.{body_layout, items_layout}
use Rattle.vb_log.specs.Faults.{IsBroken}
use Rattle.vb_log.specs.Layout.{end}
use Rattle.vb_log.specs.Prepares.{pending_layout}
use Rattle.vb_log.proofs.Layouts.{leads_on, state_leads, broken_behind}
use Rattle.vb_log.proofs.ItemBytes.{items_leads}
use Rattle.vb_log.proofs.Pieces.{handed}
use Rattle.vb_log.proofs.PendingBytes.{pending_leads}
use Rattle.vb_log.proofs.spelt_content.body_of.Goals as goal

pub returns-in_err-manifest-clause-broken : goal.returns-in_err-manifest-clause-broken
returns-in_err-manifest-clause-broken c =
    let bounds = c.args.bounds in
    handed c.from_residual.result c.in_err-manifest.field-0.0 (IsBroken (body_layout bounds) c.args.bytes.now) c.from_residual.ensures.1
    (c.in_err-manifest.ensures.broken (λ manifest. items_layout manifest bounds (pending_layout bounds end)))

pub returns-in_err-items-clause-broken : goal.returns-in_err-items-clause-broken
returns-in_err-items-clause-broken c =
    let bounds = c.args.bounds in
    let manifest = c.in_ok-manifest.manifest in
    handed c.from_residual-in_err-items.result c.in_err-items.field-0.0 (IsBroken (body_layout bounds) c.args.bytes.now) c.from_residual-in_err-items.ensures.1
    (broken_behind (body_layout bounds) c.args.bytes.now (items_layout manifest bounds (pending_layout bounds end)) c.in_ok-manifest.behind_manifest.now c.in_err-items.field-0.0
    (state_leads (λ manifest. items_layout manifest bounds (pending_layout bounds end)) c.args.bytes.now manifest c.in_ok-manifest.behind_manifest.now c.in_ok-manifest.ensures.found)
    (c.in_err-items.ensures.broken (pending_layout bounds end)))

pub returns-in_err-prepares-clause-broken : goal.returns-in_err-prepares-clause-broken
returns-in_err-prepares-clause-broken c =
    let bounds = c.args.bounds in
    let manifest = c.in_ok-manifest.manifest in
    handed c.from_residual-in_err-prepares.result c.in_err-prepares.field-0.0 (IsBroken (body_layout bounds) c.args.bytes.now) c.from_residual-in_err-prepares.ensures.1
    (broken_behind (body_layout bounds) c.args.bytes.now (pending_layout bounds end) c.in_ok-items.behind_items.now c.in_err-prepares.field-0.0
    (leads_on (body_layout bounds) c.args.bytes.now (items_layout manifest bounds (pending_layout bounds end)) c.in_ok-manifest.behind_manifest.now (pending_layout bounds end) c.in_ok-items.behind_items.now
    (state_leads (λ manifest. items_layout manifest bounds (pending_layout bounds end)) c.args.bytes.now manifest c.in_ok-manifest.behind_manifest.now c.in_ok-manifest.ensures.found)
    (items_leads manifest bounds (pending_layout bounds end) c.in_ok-manifest.behind_manifest.now c.in_ok-items.items c.in_ok-items.behind_items.now c.requires c.in_ok-items.ensures.found))
    (c.in_err-prepares.ensures.broken end))

pub returns-in_err-ended-clause-broken : goal.returns-in_err-ended-clause-broken
returns-in_err-ended-clause-broken c =
    let bounds = c.args.bounds in
    let manifest = c.in_ok-manifest.manifest in
    handed c.from_residual-in_err-ended.result c.in_err-ended.field-0.0 (IsBroken (body_layout bounds) c.args.bytes.now) c.from_residual-in_err-ended.ensures.1
    (broken_behind (body_layout bounds) c.args.bytes.now end c.in_ok-prepares.rest.now c.in_err-ended.field-0.0
    (leads_on (body_layout bounds) c.args.bytes.now (pending_layout bounds end) c.in_ok-items.behind_items.now end c.in_ok-prepares.rest.now
    (leads_on (body_layout bounds) c.args.bytes.now (items_layout manifest bounds (pending_layout bounds end)) c.in_ok-manifest.behind_manifest.now (pending_layout bounds end) c.in_ok-items.behind_items.now
    (state_leads (λ manifest. items_layout manifest bounds (pending_layout bounds end)) c.args.bytes.now manifest c.in_ok-manifest.behind_manifest.now c.in_ok-manifest.ensures.found)
    (items_leads manifest bounds (pending_layout bounds end) c.in_ok-manifest.behind_manifest.now c.in_ok-items.items c.in_ok-items.behind_items.now c.requires c.in_ok-items.ensures.found))
    (pending_leads bounds end c.in_ok-items.behind_items.now c.in_ok-prepares.prepares c.in_ok-prepares.rest.now c.requires c.in_ok-prepares.ensures.found))
    c.in_err-ended.ensures.broken)
