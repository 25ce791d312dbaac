use Rattle.std.proofs.Common.{ℕ, ◌-◌, ◌<◌, ◌≤◌, List, length, take, drop, sym, ap, subst, ◌∙◌, arith}
use Rattle.kv_frame.specs.Judging.{Lacks, GoesWrongAt}
use Rattle.kv_frame.proofs.FrameLaws.{header_whole, body_missing, body_wrong, section_whole}
use Rattle.kv_frame.proofs.judging.judge_bytes.Goals as goal

pub split_at-requires : goal.split_at-requires
split_at-requires c =
    let s = header_whole c.args.side c.args.bytes.now c.in-Good.header c.in-Good.ensures in
    s.whole

pub returns-then-rest-header : goal.returns-then-rest-header
returns-then-rest-header c =
    let behind = c.split_at.ensures.back in
    let few : length (drop 24 c.args.bytes.now) < c.in-Good.header.body = omega (arith, c.if-rest-header.true, ap (λ (l : List ℕ). length l) behind) in
    subst (λ (l : List ℕ). Lacks c.args.side c.args.bytes.now (c.in-Good.header.body - length l)) (sym behind)
    (body_missing c.args.side c.args.bytes.now c.in-Good.header c.in-Good.ensures few)

pub returns-in-Some : goal.returns-in-Some
returns-in-Some c =
    let behind = c.split_at.ensures.back in
    let whole : c.in-Good.header.body ≤ length (drop 24 c.args.bytes.now) = omega (arith, c.if-rest-header.false, ap (λ (l : List ℕ). length l) behind) in
    let cut = c.split_at-2.ensures.front ∙ ap (take c.in-Good.header.framing) behind in
    body_wrong c.args.side c.args.bytes.now c.in-Good.header _ c.in-Good.ensures whole (subst (λ (l : List ℕ). GoesWrongAt l c.in-Some.offset) cut c.in-Some.ensures)

pub returns-in-None : goal.returns-in-None
returns-in-None c =
    let behind = c.split_at.ensures.back in
    let whole : c.in-Good.header.body ≤ length (drop 24 c.args.bytes.now) = omega (arith, c.if-rest-header.false, ap (λ (l : List ℕ). length l) behind) in
    let cut = c.split_at-2.ensures.front ∙ ap (take c.in-Good.header.framing) behind in
    let read = c.in-None.ensures in
    section_whole c.args.side c.args.bytes.now c.in-Good.header read.0 c.in-Good.ensures whole read.1 (sym cut ∙ read.2)
