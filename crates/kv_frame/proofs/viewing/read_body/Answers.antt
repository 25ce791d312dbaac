use Rattle.std.proofs.Common.{◌≡◌, take, drop, sym, ap, subst, ◌∙◌}
use Rattle.kv_frame.specs.Reading.{ReadsSection}
use Rattle.kv_frame.proofs.FrameLaws.{body_cut}
use Rattle.kv_frame.proofs.viewing.read_body.Goals as goal

pub returns : goal.returns
returns c =
    let h = c.args.header.now in
    let bytes = c.args.body.now in
    let behind : c.split_at-2.result.1.now ≡ drop h.extras (drop h.framing bytes) = c.split_at-2.ensures.back ∙ ap (drop h.extras) c.split_at.ensures.back in
    let read = subst (ReadsSection c.split_at.result.0.now) c.in-All.is c.in_ok-extras.ensures in
    let cut = body_cut h bytes c.in-All.extras c.split_at-2.result.0.now c.split_at-3.result.0.now c.split_at-3.result.1.now c.requires.sum c.requires.whole
    (sym c.split_at.ensures.front ∙ read.1)
    (c.split_at-2.ensures.front ∙ ap (take h.extras) c.split_at.ensures.back)
    (c.split_at-3.ensures.front ∙ ap (take h.key) behind)
    (c.split_at-3.ensures.back ∙ ap (drop h.key) behind) in
    (read.0, cut.0, cut.1)
