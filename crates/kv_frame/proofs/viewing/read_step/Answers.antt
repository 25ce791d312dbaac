use Rattle.std.proofs.Common.{ℕ, ◌-◌, ◌<◌, ◌≤◌, List, length, take, drop, sym, ap, subst, ◌∙◌, arith}
use Rattle.std.proofs.lemmas.List.{length-take}
use Rattle.kv_frame.specs.Judging.{Lacks, GoesWrongAt}
use Rattle.kv_frame.specs.Viewing.{ReadsBody}
use Rattle.kv_frame.proofs.FrameLaws.{header_whole, body_missing, wrong_within, body_wrong, section_within, frame_whole}
use Rattle.kv_frame.proofs.viewing.read_step.Goals as goal

pub split_at-requires : goal.split_at-requires
split_at-requires c =
    let s = header_whole c.args.side c.args.bytes.now c.in-Good.header c.in-Good.ensures in
    s.whole

pub returns-then-rest-header : goal.returns-then-rest-header
returns-then-rest-header c =
    let behind = c.split_at.ensures.back in
    let few : length (drop 24 c.args.bytes.now) < c.in-Good.header.body = omega (arith, c.if-rest-header.true, ap (λ (l : List ℕ). length l) behind) in
    subst (λ (l : List ℕ). Lacks c.args.side c.args.bytes.now (c.in-Good.header.body - length l)) (sym behind)
    (body_missing c.args.side c.args.bytes.now c.in-Good.header c.in-Good.ensures few)

pub overflow_add-result-in-Wrong : goal.overflow_add-result-in-Wrong
overflow_add-result-in-Wrong c =
    let read = subst (ReadsBody c.in-Good.header c.split_at-2.result.0.now) c.in-Wrong.is c.in_ok-frame.ensures in
    let within = wrong_within (take c.in-Good.header.framing c.split_at-2.result.0.now) c.in-Wrong.offset read in
    let good = c.in-Good.ensures in
    omega (arith, within, length-take c.in-Good.header.framing c.split_at-2.result.0.now, good.sum, good.small)

pub returns-in-Whole : goal.returns-in-Whole
returns-in-Whole c =
    let read = subst (ReadsBody c.in-Good.header c.split_at-2.result.0.now) c.in-Whole.is c.in_ok-frame.ensures in
    let behind = c.split_at.ensures.back in
    let whole : c.in-Good.header.body ≤ length (drop 24 c.args.bytes.now) = omega (arith, c.if-rest-header.false, ap (λ (l : List ℕ). length l) behind) in
    let cut = ap (take c.in-Good.header.body) (sym behind) ∙ sym c.split_at-2.ensures.front ∙ read.2 in
    frame_whole c.args.side c.args.bytes.now c.in-Good.header _ c.in-Good.ensures whole read.0 read.1 cut

pub returns-in-Wrong : goal.returns-in-Wrong
returns-in-Wrong c =
    let read = subst (ReadsBody c.in-Good.header c.split_at-2.result.0.now) c.in-Wrong.is c.in_ok-frame.ensures in
    let behind = c.split_at.ensures.back in
    let whole : c.in-Good.header.body ≤ length (drop 24 c.args.bytes.now) = omega (arith, c.if-rest-header.false, ap (λ (l : List ℕ). length l) behind) in
    let cut = ap (take c.in-Good.header.framing) (c.split_at-2.ensures.front ∙ ap (take c.in-Good.header.body) behind) ∙ section_within c.in-Good.header (drop 24 c.args.bytes.now) c.in-Good.ensures.sum in
    body_wrong c.args.side c.args.bytes.now c.in-Good.header _ c.in-Good.ensures whole (subst (λ (l : List ℕ). GoesWrongAt l c.in-Wrong.offset) cut read)
