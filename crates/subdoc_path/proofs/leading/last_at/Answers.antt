use Rattle.std.proofs.Common.{arith}
use Rattle.json_model.specs.declared.asked.Part.TheVariants as parts
use Rattle.subdoc_path.proofs.Naming.{none_there, going_first, going_next, last_here}
use Rattle.subdoc_path.proofs.leading.last_at.Goals as goal

pub returns-in-None : goal.returns-in-None
returns-in-None c t is k = none_there parts.Last t c.args.at (c.in-None.ensures.found t is)

pub loop-next-init : goal.loop-next-init
loop-next-init c = record {
  within = c.in-Some.ensures.within;
  going = λ t is k. going_first c.args.text.now parts.Last c.args.at t c.in-Some.first is k (c.in-Some.ensures.found t is);
}

pub returns-in-None-next_part : goal.returns-in-None-next_part
returns-in-None-next_part c t is k =
    last_here c.args.text.now c.args.at t c.loop-next.element c.value_end.result (c.loop-next.invariant.going t is k) c.value_end.ensures.found c.in-None-next_part.ensures.found

pub loop-next-preserved : goal.loop-next-preserved
loop-next-preserved c =
    let i = c.loop-next.invariant in
    let n = c.in-Some-next_part.ensures.within in
    record {
      within = record { low = omega (arith, n.low, i.within.low, i.within.keyed, i.within.valued, c.value_end.ensures.within); keyed = n.keyed; valued = n.valued; high = n.high };
      going = λ t is k. going_next c.args.text.now parts.Last c.args.at t c.loop-next.element c.value_end.result c.in-Some-next_part.next (i.going t is k) tt c.value_end.ensures.found c.in-Some-next_part.ensures.found;
    }
