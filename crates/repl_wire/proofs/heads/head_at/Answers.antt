use Rattle.std.proofs.Common.{subst}
use Rattle.repl_wire.specs.Grammar.{head_layout}
use Rattle.repl_wire.specs.Layout.{anything, number, one, four, within}
use Rattle.repl_wire.specs.Reading.{HeadFails}
use Rattle.repl_wire.proofs.HeadFields.{size_part, unused_part, vbucket_part, target_part, source_part, kind_part, Begun, Routed, Placed, begun_fails, source_fails, routed_fails, vbucket_fails, placed_fails}
use Rattle.repl_wire.proofs.Layouts.{handed, head_behind}
use Rattle.repl_wire.proofs.heads.head_at.Goals as goal

pub returns-in_err-behind_mark-clause-broken : goal.returns-in_err-behind_mark-clause-broken
returns-in_err-behind_mark-clause-broken c =
    handed c.from_residual.result c.in_err-behind_mark.field-0.0 (HeadFails head_layout c.args.bytes.now) c.from_residual.ensures.1
    (c.in_err-behind_mark.ensures.broken (λ mark. kind_part))

pub returns-in_err-kind-clause-broken : goal.returns-in_err-kind-clause-broken
returns-in_err-kind-clause-broken c =
    handed c.from_residual-in_err-kind.result c.in_err-kind.field-0.0 (HeadFails head_layout c.args.bytes.now) c.from_residual-in_err-kind.ensures.1
    (head_behind one (within 0x70 0x70) (λ mark. kind_part) c.args.bytes.now c.in_ok-behind_mark.field-0-0 c.in_ok-behind_mark.behind_mark.now c.in_err-kind.field-0.0 c.in_ok-behind_mark.ensures.found
    (c.in_err-kind.ensures.broken source_part))

pub returns-in_err-from-clause-broken : goal.returns-in_err-from-clause-broken
returns-in_err-from-clause-broken c =
    let begun : Begun c.args.bytes.now c.in_ok-kind.kind c.in_ok-kind.behind_kind.now =
    record { mark = c.in_ok-behind_mark.field-0-0; middle = c.in_ok-behind_mark.behind_mark.now; first = c.in_ok-behind_mark.ensures.found; second = c.in_ok-kind.ensures.found } in
    handed c.from_residual-in_err-from.result c.in_err-from.field-0.0 (HeadFails head_layout c.args.bytes.now) c.from_residual-in_err-from.ensures.1
    (begun_fails c.args.bytes.now c.in_ok-kind.kind c.in_ok-kind.behind_kind.now c.in_err-from.field-0.0 begun
    (c.in_err-from.ensures.broken (λ from. target_part c.in_ok-kind.kind from)))

pub returns-in_err-to-clause-broken : goal.returns-in_err-to-clause-broken
returns-in_err-to-clause-broken c =
    let begun : Begun c.args.bytes.now c.in_ok-kind.kind c.in_ok-kind.behind_kind.now =
    record { mark = c.in_ok-behind_mark.field-0-0; middle = c.in_ok-behind_mark.behind_mark.now; first = c.in_ok-behind_mark.ensures.found; second = c.in_ok-kind.ensures.found } in
    handed c.from_residual-in_err-to.result c.in_err-to.field-0.0 (HeadFails head_layout c.args.bytes.now) c.from_residual-in_err-to.ensures.1
    (source_fails c.args.bytes.now c.in_ok-kind.kind c.in_ok-from.from c.in_ok-kind.behind_kind.now c.in_ok-from.behind_from.now c.in_err-to.field-0.0 begun c.in_ok-from.ensures.found
    (c.in_err-to.ensures.broken (λ to. vbucket_part c.in_ok-kind.kind)))

pub returns-in_err-vbucket-clause-broken : goal.returns-in_err-vbucket-clause-broken
returns-in_err-vbucket-clause-broken c =
    let begun : Begun c.args.bytes.now c.in_ok-kind.kind c.in_ok-kind.behind_kind.now =
    record { mark = c.in_ok-behind_mark.field-0-0; middle = c.in_ok-behind_mark.behind_mark.now; first = c.in_ok-behind_mark.ensures.found; second = c.in_ok-kind.ensures.found } in
    let routed : Routed c.args.bytes.now c.in_ok-kind.kind c.in_ok-from.from c.in_ok-to.to c.in_ok-to.behind_to.now =
    record { front = c.in_ok-kind.behind_kind.now; middle = c.in_ok-from.behind_from.now; begun = begun; source = c.in_ok-from.ensures.found; target = c.in_ok-to.ensures.found } in
    handed c.from_residual-in_err-vbucket.result c.in_err-vbucket.field-0.0 (HeadFails head_layout c.args.bytes.now) c.from_residual-in_err-vbucket.ensures.1
    (routed_fails c.args.bytes.now c.in_ok-kind.kind c.in_ok-from.from c.in_ok-to.to c.in_ok-to.behind_to.now c.in_err-vbucket.field-0.0 routed
    (c.in_err-vbucket.ensures.broken (λ vbucket. unused_part c.in_ok-kind.kind)))

pub returns-in_err-last-clause-broken : goal.returns-in_err-last-clause-broken
returns-in_err-last-clause-broken c =
    let begun : Begun c.args.bytes.now c.in_ok-kind.kind c.in_ok-kind.behind_kind.now =
    record { mark = c.in_ok-behind_mark.field-0-0; middle = c.in_ok-behind_mark.behind_mark.now; first = c.in_ok-behind_mark.ensures.found; second = c.in_ok-kind.ensures.found } in
    let routed : Routed c.args.bytes.now c.in_ok-kind.kind c.in_ok-from.from c.in_ok-to.to c.in_ok-to.behind_to.now =
    record { front = c.in_ok-kind.behind_kind.now; middle = c.in_ok-from.behind_from.now; begun = begun; source = c.in_ok-from.ensures.found; target = c.in_ok-to.ensures.found } in
    handed c.from_residual-in_err-last.result c.in_err-last.field-0.0 (HeadFails head_layout c.args.bytes.now) c.from_residual-in_err-last.ensures.1
    (vbucket_fails c.args.bytes.now c.in_ok-kind.kind c.in_ok-from.from c.in_ok-to.to c.in_ok-vbucket.vbucket c.in_ok-to.behind_to.now c.in_ok-vbucket.behind_vbucket.now c.in_err-last.field-0.0 routed c.in_ok-vbucket.ensures.found
    (c.in_err-last.ensures.broken (λ unused. size_part c.in_ok-kind.kind)))

pub returns-in_err-size-clause-broken : goal.returns-in_err-size-clause-broken
returns-in_err-size-clause-broken c =
    let begun : Begun c.args.bytes.now c.in_ok-kind.kind c.in_ok-kind.behind_kind.now =
    record { mark = c.in_ok-behind_mark.field-0-0; middle = c.in_ok-behind_mark.behind_mark.now; first = c.in_ok-behind_mark.ensures.found; second = c.in_ok-kind.ensures.found } in
    let routed : Routed c.args.bytes.now c.in_ok-kind.kind c.in_ok-from.from c.in_ok-to.to c.in_ok-to.behind_to.now =
    record { front = c.in_ok-kind.behind_kind.now; middle = c.in_ok-from.behind_from.now; begun = begun; source = c.in_ok-from.ensures.found; target = c.in_ok-to.ensures.found } in
    let placed : Placed c.args.bytes.now c.in_ok-kind.kind c.in_ok-from.from c.in_ok-to.to c.in_ok-vbucket.vbucket c.in_ok-last.last.now =
    record { front = c.in_ok-to.behind_to.now; middle = c.in_ok-vbucket.behind_vbucket.now; routed = routed; number = c.in_ok-vbucket.ensures.found; unused = c.in_ok-last.ensures.found } in
    handed c.from_residual-in_err-size.result c.in_err-size.field-0.0 (HeadFails head_layout c.args.bytes.now) c.from_residual-in_err-size.ensures.1
    (placed_fails c.args.bytes.now c.in_ok-kind.kind c.in_ok-from.from c.in_ok-to.to c.in_ok-vbucket.vbucket c.in_ok-last.last.now c.in_err-size.field-0.0 placed
    (subst (λ test. HeadFails (number four test (λ size. anything)) c.in_ok-last.last.now c.in_err-size.field-0.0) (λ i. within (c.least_size.ensures i) (c.most_size.ensures i))
    (c.in_err-size.ensures.broken (λ size. anything))))
