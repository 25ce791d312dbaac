use Rattle.std.proofs.Common.{length, ap, arith}
use Rattle.kv_frame.specs.declared.frame.FrameExtra.{FrameExtra}
use Rattle.kv_frame.specs.Grammar.{extra}
use Rattle.kv_frame.proofs.Kept.{section_room}
use Rattle.kv_frame.proofs.encoding.section_length.Goals as goal

pub overflow_add-total : goal.overflow_add-total
overflow_add-total c =
    let e = c.frame_extra-item.result in
    let room = section_room c.args.extras.now c.loop-frame_extra.frame_extra-index e c.loop-frame_extra-test.true in
    omega (arith, room, ap (λ (e : FrameExtra). length (extra e)) c.frame_extra-item.is, c.extra_length-total.ensures, c.loop-frame_extra.invariant, c.requires.short)
