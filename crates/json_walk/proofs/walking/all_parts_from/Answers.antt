use Rattle.std.proofs.Common.{arith}
use Rattle.json_walk.proofs.Further.{going_first, going_more, going_done}
use Rattle.json_walk.proofs.walking.all_parts_from.Goals as goal

pub loop-part-init : goal.loop-part-init
loop-part-init c =
    let p = c.part_from-first.ensures.within in
    let v = c.value_end-end.ensures.within in
    record {
      few = omega (arith, c.requires, p.low, p.keyed, p.valued, v);
      low = omega (arith, p.low, p.keyed, p.valued, v);
      high = v.1;
      going = λ ps s. going_first c.args.text.now c.args.shape c.args.from ps c.part_from-first.result c.value_end-end.result s (c.part_from-first.ensures.found ps s) c.value_end-end.ensures.found;
    }

pub loop-part-preserved : goal.loop-part-preserved
loop-part-preserved c =
    let i = c.loop-part.invariant in
    let p = c.in-Some.ensures.within in
    let v = c.value_end-end-in-Some.ensures.within in
    record {
      few = omega (arith, i.few, p.low, p.keyed, p.valued, v);
      low = omega (arith, i.low, p.low, p.keyed, p.valued, v);
      high = v.1;
      going = λ ps s. going_more c.args.text.now c.args.shape c.args.from ps c.loop-part.count c.loop-part.end c.value_end-end-in-Some.result c.in-Some.part (i.going ps s) c.in-Some.ensures.found c.value_end-end-in-Some.ensures.found;
    }

pub returns-clause-found : goal.returns-clause-found
returns-clause-found c ps s =
    going_done c.args.text.now c.args.shape c.args.from ps c.loop-part.count c.loop-part.end (c.loop-part.invariant.going ps s) c.in_default.ensures.found
