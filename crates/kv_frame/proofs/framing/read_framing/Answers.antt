use Rattle.std.proofs.Common.{◌≡◌, ◌<◌, List, [], ◌∷◌, ◌++◌, length, ap, sym, subst, ◌∙◌, rules}
use Rattle.kv_frame.specs.declared.frame.FrameExtra.{FrameExtra}
use Rattle.kv_frame.proofs.ExtraLaws.{Sections, section_more, section_shorter, section_wrong}
use Rattle.kv_frame.proofs.framing.read_framing.Goals as goal

pub loop-rest-smaller : goal.loop-rest-smaller
loop-rest-smaller c =
    section_shorter c.loop-rest.rest.now c.in-Some.after.now (record { id = c.in-Some.id; body = c.in-Some.body.now }) c.loop-rest.invariant.rest_fits (sym c.in-Some.ensures)

pub loop-rest-preserved : goal.loop-rest-preserved
loop-rest-preserved c =
    let front = c.loop-rest.extras in
    let read : FrameExtra = record { id = c.in-Some.id; body = c.in-Some.body.now } in
    let pushed : c.push.new.self ≡ front ++ read ∷ [] =
    c.in_ok-push-in-Some.ensures.ok ∙ ap (λ b. front ++ record { id = c.in-Some.id; body = b } ∷ []) c.in_ok-body-in-Some.ensures in
    subst (λ (es : List FrameExtra). Sections c.args.bytes.now es c.in-Some.after.now) (sym pushed)
    (section_more c.args.bytes.now c.loop-rest.rest.now c.in-Some.after.now front read c.loop-rest.invariant (sym c.in-Some.ensures))

pub returns-in-None : goal.returns-in-None
returns-in-None c =
    let some : 0 < length c.loop-rest.rest.now = search rules in
    section_wrong c.args.bytes.now c.loop-rest.rest.now c.loop-rest.extras c.loop-rest.invariant some (sym c.in-None.ensures)
