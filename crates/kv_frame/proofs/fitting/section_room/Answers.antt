use Rattle.std.proofs.Common.{length, ap, refl, arith}
use Rattle.kv_frame.specs.declared.frame.FrameExtra.{FrameExtra}
use Rattle.kv_frame.specs.Grammar.{extra}
use Rattle.kv_frame.proofs.ExtraLaws.{extra_short}
use Rattle.kv_frame.proofs.Kept.{section_room}
use Rattle.kv_frame.proofs.fitting.section_room.Goals as goal

pub overflow_add-total : goal.overflow_add-total
overflow_add-total c =
    omega (arith, extra_short c.frame_extra-item.result (c.if-not-extra_fits.ensures.0 refl), c.extra_length-total.ensures, c.loop-frame_extra.invariant.short)

pub returns-then-total-ge-BYTE_BOUND : goal.returns-then-total-ge-BYTE_BOUND
returns-then-total-ge-BYTE_BOUND c (all, short) =
    let e = c.frame_extra-item.result in
    let room = section_room c.args.extras.now c.loop-frame_extra.frame_extra-index e c.loop-frame_extra-test.true in
    omega (arith, room, short, ap (λ (e : FrameExtra). length (extra e)) c.frame_extra-item.is, c.extra_length-total.ensures, c.loop-frame_extra.invariant.counted)
