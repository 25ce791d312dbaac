use Rattle.std.proofs.Common.{◌<◌, ◌∷◌, [], ◌++◌, length, sym, rules}
use Rattle.kv_frame.specs.declared.frame.FrameExtra.{FrameExtra}
use Rattle.kv_frame.proofs.ExtraLaws.{section_more, section_shorter, section_wrong}
use Rattle.kv_frame.proofs.judging.first_wrong.Goals as goal

pub loop-rest-smaller : goal.loop-rest-smaller
loop-rest-smaller c =
    section_shorter c.loop-rest.rest.now c.in-Some.after.now (record { id = c.in-Some.field-0-0; body = c.in-Some.field-0-1.now }) c.loop-rest.invariant.1.rest_fits (sym c.in-Some.ensures)

pub loop-rest-preserved : goal.loop-rest-preserved
loop-rest-preserved c =
    let es = c.loop-rest.invariant.0 in
    let read : FrameExtra = record { id = c.in-Some.field-0-0; body = c.in-Some.field-0-1.now } in
    (es ++ read ∷ [], section_more c.args.section.now c.loop-rest.rest.now c.in-Some.after.now es read c.loop-rest.invariant.1 (sym c.in-Some.ensures))

pub returns-in-None : goal.returns-in-None
returns-in-None c =
    let some : 0 < length c.loop-rest.rest.now = search rules in
    section_wrong c.args.section.now c.loop-rest.rest.now c.loop-rest.invariant.0 c.loop-rest.invariant.1 some (sym c.in-None.ensures)
