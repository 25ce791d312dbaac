use Rattle.std.specs.Prelude.{◌-◌, ◌^◌}
use Rattle.vb_log.specs.Layout.{byte, four}
use Rattle.vb_log.specs.Spelling.{word_layout, head_layout}
use Rattle.vb_log.specs.Faults.{IsBroken}
use Rattle.vb_log.proofs.Layouts.{leads_on, number_leads, broken_behind}
use Rattle.vb_log.proofs.Pieces.{handed, cas_leads}
use Rattle.vb_log.proofs.documents.head_at.Goals as goal

pub returns-in_err-cas-clause-broken : goal.returns-in_err-cas-clause-broken
returns-in_err-cas-clause-broken c =
    λ next. handed c.from_residual.result c.in_err-cas.field-0.0 (IsBroken (head_layout c.args.most next) c.args.bytes.now) c.from_residual.ensures.1
    (c.in_err-cas.ensures.broken (word_layout (word_layout (byte 0 1 (λ json. next)))))

pub returns-in_err-flags-clause-broken : goal.returns-in_err-flags-clause-broken
returns-in_err-flags-clause-broken c =
    λ next. handed c.from_residual-in_err-flags.result c.in_err-flags.field-0.0 (IsBroken (head_layout c.args.most next) c.args.bytes.now) c.from_residual-in_err-flags.ensures.1
    (broken_behind (head_layout c.args.most next) c.args.bytes.now (word_layout (word_layout (byte 0 1 (λ json. next)))) c.in_ok-cas.behind_cas.now c.in_err-flags.field-0.0
    (cas_leads c.args.most (word_layout (word_layout (byte 0 1 (λ json. next)))) c.args.bytes.now c.in_ok-cas.cas c.in_ok-cas.behind_cas.now c.in_ok-cas.ensures.found)
    (c.in_err-flags.ensures.broken (λ word. (word_layout (byte 0 1 (λ json. next))))))

pub returns-in_err-expiry-clause-broken : goal.returns-in_err-expiry-clause-broken
returns-in_err-expiry-clause-broken c =
    λ next. handed c.from_residual-in_err-expiry.result c.in_err-expiry.field-0.0 (IsBroken (head_layout c.args.most next) c.args.bytes.now) c.from_residual-in_err-expiry.ensures.1
    (broken_behind (head_layout c.args.most next) c.args.bytes.now (word_layout (byte 0 1 (λ json. next))) c.in_ok-flags.behind_flags.now c.in_err-expiry.field-0.0
    (leads_on (head_layout c.args.most next) c.args.bytes.now (word_layout (word_layout (byte 0 1 (λ json. next)))) c.in_ok-cas.behind_cas.now (word_layout (byte 0 1 (λ json. next))) c.in_ok-flags.behind_flags.now (cas_leads c.args.most (word_layout (word_layout (byte 0 1 (λ json. next)))) c.args.bytes.now c.in_ok-cas.cas c.in_ok-cas.behind_cas.now c.in_ok-cas.ensures.found)
    (number_leads four 0 (2 ^ 32 - 1) (λ word. (word_layout (byte 0 1 (λ json. next)))) c.in_ok-cas.behind_cas.now c.in_ok-flags.flags c.in_ok-flags.behind_flags.now c.in_ok-flags.ensures.found))
    (c.in_err-expiry.ensures.broken (λ word. (byte 0 1 (λ json. next)))))

pub returns-in_err-json-clause-broken : goal.returns-in_err-json-clause-broken
returns-in_err-json-clause-broken c =
    λ next. handed c.from_residual-in_err-json.result c.in_err-json.field-0.0 (IsBroken (head_layout c.args.most next) c.args.bytes.now) c.from_residual-in_err-json.ensures.1
    (broken_behind (head_layout c.args.most next) c.args.bytes.now (byte 0 1 (λ json. next)) c.in_ok-expiry.behind_expiry.now c.in_err-json.field-0.0
    (leads_on (head_layout c.args.most next) c.args.bytes.now (word_layout (byte 0 1 (λ json. next))) c.in_ok-flags.behind_flags.now (byte 0 1 (λ json. next)) c.in_ok-expiry.behind_expiry.now (leads_on (head_layout c.args.most next) c.args.bytes.now (word_layout (word_layout (byte 0 1 (λ json. next)))) c.in_ok-cas.behind_cas.now (word_layout (byte 0 1 (λ json. next))) c.in_ok-flags.behind_flags.now (cas_leads c.args.most (word_layout (word_layout (byte 0 1 (λ json. next)))) c.args.bytes.now c.in_ok-cas.cas c.in_ok-cas.behind_cas.now c.in_ok-cas.ensures.found)
    (number_leads four 0 (2 ^ 32 - 1) (λ word. (word_layout (byte 0 1 (λ json. next)))) c.in_ok-cas.behind_cas.now c.in_ok-flags.flags c.in_ok-flags.behind_flags.now c.in_ok-flags.ensures.found))
    (number_leads four 0 (2 ^ 32 - 1) (λ word. (byte 0 1 (λ json. next))) c.in_ok-flags.behind_flags.now c.in_ok-expiry.expiry c.in_ok-expiry.behind_expiry.now c.in_ok-expiry.ensures.found))
    (c.in_err-json.ensures.broken (λ json. next)))
