use Rattle.std.proofs.Common.{◌≡◌, ◌+◌, ◌++◌, length, take, arith, ap, ◌∙◌, subst, sym}
use Rattle.std.proofs.Math.Seq.{take-add}
use Rattle.std.proofs.lemmas.List.{length-drop}
use Rattle.kv_edge.specs.Edge.{PutAll}
use Rattle.kv_edge.proofs.Known.{put_more}
use Rattle.kv_edge.proofs.transfer.write_all.Goals as goal

pub loop-at-preserved : goal.loop-at-preserved
loop-at-preserved g c =
    let piece = c.args.piece.now in
    let at = c.loop-at.at in
    let count = c.in-Wrote.count in
    let wrote = c.in-Wrote.ensures in
    let front : take at piece ++ take count c.split_at.result.1.now ≡ take (at + count) piece =
    ap (λ l. take at piece ++ take count l) c.split_at.ensures.back ∙ sym (take-add at count piece) in
    record {
      within = omega (arith, wrote.within.0, ap length c.split_at.ensures.back, length-drop at piece);
      written = subst (PutAll (g.K.Sink.written c.args.sink.now) (g.K.Sink.written c.write.new.self)) front (put_more _ _ _ _ _ c.loop-at.invariant.written wrote.bytes);
      counted = omega (arith, wrote.counted);
    }
