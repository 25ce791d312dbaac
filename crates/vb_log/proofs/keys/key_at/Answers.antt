use Rattle.std.proofs.Common.{◌≡◌, length}
use Rattle.doc_model.specs.declared.key.DocKey.{DocKey}
use Rattle.vb_log.specs.declared.limits.TheConstants.{SPELT_KEY_LIMIT}
use Rattle.vb_log.specs.Keys.{IsAllowedKey, spelt_key}
use Rattle.vb_log.specs.Layout.{run, as_key}
use Rattle.vb_log.specs.Spelling.{key_layout}
use Rattle.vb_log.specs.Faults.{IsBroken}
use Rattle.vb_log.proofs.Layouts.{byte_leads, broken_behind}
use Rattle.vb_log.proofs.Pieces.{handed, run_refused}
use Rattle.vb_log.proofs.keys.key_at.Goals as goal

pub returns-in_err-size-clause-broken : goal.returns-in_err-size-clause-broken
returns-in_err-size-clause-broken c =
    λ next. handed c.from_residual.result c.in_err-size.field-0.0 (IsBroken (key_layout next) c.args.bytes.now) c.from_residual.ensures.1
    (c.in_err-size.ensures.broken (λ size. run size as_key next))

pub returns-in_err-spelt-clause-broken : goal.returns-in_err-spelt-clause-broken
returns-in_err-spelt-clause-broken c =
    λ next. handed c.from_residual-in_err-spelt.result c.in_err-spelt.field-0.0 (IsBroken (key_layout next) c.args.bytes.now) c.from_residual-in_err-spelt.ensures.1
    (broken_behind (key_layout next) c.args.bytes.now (run c.in_ok-size.size as_key next) c.in_ok-size.rest.now c.in_err-spelt.field-0.0
    (byte_leads 0 SPELT_KEY_LIMIT (λ size. run size as_key next) c.args.bytes.now c.in_ok-size.size c.in_ok-size.rest.now c.in_ok-size.ensures.found)
    (c.in_err-spelt.ensures.broken as_key next))

pub returns-in-None-clause-broken : goal.returns-in-None-clause-broken
returns-in-None-clause-broken c =
    let none : (key : DocKey) → IsAllowedKey key → c.in_ok-spelt.spelt.now ≡ spelt_key key → ⊥ = rw c.in-None.is at c.in_ok-key.ensures in
    λ next. (byte_leads 0 SPELT_KEY_LIMIT (λ size. run size as_key next) c.args.bytes.now c.in_ok-size.size c.in_ok-size.rest.now c.in_ok-size.ensures.found).breaks (length c.in_ok-size.rest.now)
    (run_refused c.in_ok-size.size as_key next c.in_ok-size.rest.now c.in_ok-spelt.spelt.now c.in_ok-spelt.behind.now c.in_ok-spelt.ensures.found (λ s. none s.0 s.1 s.2))
