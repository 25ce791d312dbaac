use Rattle.std.proofs.Common.{◌≡◌, ◌<◌, ◌^◌, List, length, subst, arith}
use Rattle.std.proofs.lemmas.Bool.{leb-true, le-leb}
use Rattle.kv_frame.specs.declared.frame.FrameExtra.{FrameExtra}
use Rattle.kv_frame.specs.Grammar.{section, FramingFits}
use Rattle.kv_frame.proofs.FrameLaws.{key_short}
use Rattle.kv_frame.proofs.fitting.fits.Goals as goal

pub returns : goal.returns
returns c =
    let f = c.args.frame.now in
    let room = subst (λ (es : List FrameExtra). FramingFits f.magic es × (c.in-Some.framing ≡ length (section es)) × (c.in-Some.framing < 2 ^ 8)) c.as_slice.ensures c.in-Some.ensures in
    let key = key_short f.magic in (
      λ test.
          let small = leb-true _ _ test in
          record {
            opcode = omega arith;
            datatype = omega arith;
            word = omega arith;
            opaque = omega arith;
            cas = omega arith;
            framing = room.0;
            extras = omega arith;
            key = omega arith;
            body = omega (arith, room.1, room.2, small);
          },
      λ fits. le-leb _ _ (omega (arith, fits.body, room.1, room.2)),
    )
