use Rattle.subdoc_edit.proofs.Meeting.{left_first, left_some, left_here, left_next, left_more}
use Rattle.json_model.specs.Spelled.{group}
use Rattle.subdoc_edit.proofs.places.meet.Goals as goal

pub returns-in-None : goal.returns-in-None
returns-in-None c ps k s few e = absurd (left_some c.args.shape c.args.whole ps (c.in-None.ensures.found (group c.args.shape ps) s))

pub loop-part-init : goal.loop-part-init
loop-part-init c = record {
  within = c.in-Some.ensures.within.high;
  left = λ ps k s few e. left_first c.args.text.now c.args.shape c.args.whole ps k c.in-Some.first s few (c.in-Some.ensures.found (group c.args.shape ps) s);
}

pub returns-in-None-next_part : goal.returns-in-None-next_part
returns-in-None-next_part c ps k s few e =
    absurd (left_more c.args.text.now c.args.shape c.args.whole c.args.at c.value_end-end.result ps k c.loop-part.part c.loop-part.before (c.loop-part.invariant.left ps k s few e) e c.loop-part-test.true c.value_end-end.ensures.found c.in-None-next_part.ensures.found)

pub loop-part-preserved : goal.loop-part-preserved
loop-part-preserved c = record {
  within = c.in-Some-next_part.ensures.within.high;
  left = λ ps k s few e.
      left_next c.args.text.now c.args.shape c.args.whole c.args.at c.value_end-end.result ps k c.loop-part.part c.in-Some-next_part.next c.loop-part.before (c.loop-part.invariant.left ps k s few e) e c.loop-part-test.true c.value_end-end.ensures.found c.in-Some-next_part.ensures.found;
}

pub returns : goal.returns
returns c ps k s few e = left_here c.args.text.now c.args.shape c.args.whole c.args.at ps k c.loop-part.part c.loop-part.before (c.loop-part.invariant.left ps k s few e) e c.loop-part-test.false
