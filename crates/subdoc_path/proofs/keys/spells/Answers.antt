use Rattle.std.proofs.Common.{sym, ◌∙◌}
use Rattle.subdoc_path.proofs.Steps.{letter_goes, letter_stops, letter_ends, none_left}
use Rattle.subdoc_path.proofs.keys.spells.Goals as goal

pub returns-then-byte-eq34 : goal.returns-then-byte-eq34
returns-then-byte-eq34 c = c.ended.ensures ∙ sym (letter_ends c.loop-rest.waiting c.loop-rest.rest.now c.loop-rest.left.now c.in-len1-up.len_at_least c.if-byte-eq34.true) ∙ c.loop-rest.invariant.same

pub returns-in-None : goal.returns-in-None
returns-in-None c = sym (letter_stops c.loop-rest.waiting c.loop-rest.rest.now c.loop-rest.left.now c.in-len1-up.len_at_least c.if-byte-eq34.false c.in-None.ensures.left) ∙ c.loop-rest.invariant.same

pub loop-rest-preserved : goal.loop-rest-preserved
loop-rest-preserved c =
    record {
      same = sym (letter_goes c.loop-rest.waiting c.loop-rest.rest.now c.loop-rest.left.now c.in-Some.next c.in-Some.behind.now c.in-Some.after.now c.in-len1-up.len_at_least c.if-byte-eq34.false c.in-Some.ensures.left) ∙ c.loop-rest.invariant.same;
      waits = c.in-Some.ensures.waits;
    }

pub returns : goal.returns
returns c = sym (none_left c.loop-rest.waiting c.loop-rest.rest.now c.loop-rest.left.now c.in_default.len_below) ∙ c.loop-rest.invariant.same
