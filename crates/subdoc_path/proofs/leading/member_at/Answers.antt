use Rattle.std.proofs.Common.{arith, rules}
use Rattle.std.specs.Prelude.{IsTrue, false}
use Rattle.json_model.specs.declared.asked.Part.TheVariants as parts
use Rattle.subdoc_path.proofs.Naming.{none_there, going_first, going_next, key_is, member_here, member_passed, member_none}
use Rattle.subdoc_path.proofs.leading.member_at.Goals as goal

is_false : IsTrue false → ⊥
is_false h = cc

pub returns-in-None : goal.returns-in-None
returns-in-None c t is k = none_there (parts.Member c.args.name.now) t c.args.at (c.in-None.ensures.found t is)

pub loop-member-init : goal.loop-member-init
loop-member-init c = record {
  within = c.in-Some.ensures.within;
  going = λ t is k. going_first c.args.text.now (parts.Member c.args.name.now) c.args.at t c.in-Some.first is k (c.in-Some.ensures.found t is);
}

pub stands_for-requires : goal.stands_for-requires
stands_for-requires c =
    let r = c.requires in
    let g = c.loop-member.invariant.going r.0 r.1 r.2 in
    (key_is c.args.text.now c.args.name.now c.cut.result.now c.args.at r.0 c.loop-member.member g c.cut.ensures).string

pub returns-then-stands_for : goal.returns-then-stands_for
returns-then-stands_for c t is k =
    member_here c.args.text.now c.args.name.now c.cut.result.now c.args.at t c.loop-member.member (c.loop-member.invariant.going t is k) c.cut.ensures (c.if-stands_for.ensures.0 (search rules))

pub returns-in-None-next_part : goal.returns-in-None-next_part
returns-in-None-next_part c t is k =
    let g = c.loop-member.invariant.going t is k in
    member_none c.args.text.now c.args.name.now c.args.at t c.loop-member.member c.value_end.result g
    (member_passed c.args.text.now c.args.name.now c.cut.result.now c.args.at t c.loop-member.member g c.cut.ensures (λ w. is_false (c.if-stands_for.ensures.1 w)))
    c.value_end.ensures.found c.in-None-next_part.ensures.found

pub loop-member-preserved : goal.loop-member-preserved
loop-member-preserved c =
    let i = c.loop-member.invariant in
    let n = c.in-Some-next_part.ensures.within in
    record {
      within = record { low = omega (arith, n.low, i.within.low, i.within.keyed, i.within.valued, c.value_end.ensures.within); keyed = n.keyed; valued = n.valued; high = n.high };
      going = λ t is k.
          going_next c.args.text.now (parts.Member c.args.name.now) c.args.at t c.loop-member.member c.value_end.result c.in-Some-next_part.next (i.going t is k)
          (member_passed c.args.text.now c.args.name.now c.cut.result.now c.args.at t c.loop-member.member (i.going t is k) c.cut.ensures (λ w. is_false (c.if-stands_for.ensures.1 w)))
          c.value_end.ensures.found c.in-Some-next_part.ensures.found;
    }
