use Rattle.std.specs.Prelude.{◌≡◌, nat_eq, if◌then◌else◌}
use Rattle.std.proofs.Common.{subst, arith}
use Rattle.vb_log.specs.Layout.{ByteAt}
use Rattle.vb_log.specs.Spelling.{doc_layout, cas_layout, what_layout}
use Rattle.vb_log.specs.Faults.{IsBroken}
use Rattle.vb_log.proofs.Layouts.{byte_leads, broken_behind}
use Rattle.vb_log.proofs.Pieces.{handed}
use Rattle.vb_log.proofs.documents.what_at.Goals as goal

pub returns-in_err-tag-clause-broken : goal.returns-in_err-tag-clause-broken
returns-in_err-tag-clause-broken c =
    λ next. handed c.from_residual.result c.in_err-tag.field-0.0 (IsBroken (what_layout c.args.most next) c.args.bytes.now) c.from_residual.ensures.1
    (c.in_err-tag.ensures.broken (λ tag. if nat_eq tag 1 then doc_layout c.args.most next else cas_layout c.args.most next))

pub returns-in_err-doc-clause-broken : goal.returns-in_err-doc-clause-broken
returns-in_err-doc-clause-broken c =
    let is : c.in_ok-tag.tag ≡ 1 = omega arith in
    λ next. handed c.from_residual-in_err-doc.result c.in_err-doc.field-0.0 (IsBroken (what_layout c.args.most next) c.args.bytes.now) c.from_residual-in_err-doc.ensures.1
    (broken_behind (what_layout c.args.most next) c.args.bytes.now (doc_layout c.args.most next) c.in_ok-tag.behind.now c.in_err-doc.field-0.0
    (byte_leads 1 2 (λ tag. if nat_eq tag 1 then doc_layout c.args.most next else cas_layout c.args.most next) c.args.bytes.now 1 c.in_ok-tag.behind.now (subst (λ n. ByteAt 1 2 c.args.bytes.now n c.in_ok-tag.behind.now) is c.in_ok-tag.ensures.found))
    (c.in_err-doc.ensures.broken next))

pub returns-in_err-cas-clause-broken : goal.returns-in_err-cas-clause-broken
returns-in_err-cas-clause-broken c =
    let at = c.in_ok-tag.ensures.found in
    let is : c.in_ok-tag.tag ≡ 2 = omega arith in
    λ next. handed c.from_residual-in_err-cas.result c.in_err-cas.field-0.0 (IsBroken (what_layout c.args.most next) c.args.bytes.now) c.from_residual-in_err-cas.ensures.1
    (broken_behind (what_layout c.args.most next) c.args.bytes.now (cas_layout c.args.most next) c.in_ok-tag.behind.now c.in_err-cas.field-0.0
    (byte_leads 1 2 (λ tag. if nat_eq tag 1 then doc_layout c.args.most next else cas_layout c.args.most next) c.args.bytes.now 2 c.in_ok-tag.behind.now (subst (λ n. ByteAt 1 2 c.args.bytes.now n c.in_ok-tag.behind.now) is c.in_ok-tag.ensures.found))
    (c.in_err-cas.ensures.broken next))
