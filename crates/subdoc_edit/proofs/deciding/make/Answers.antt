use Rattle.std.proofs.Common.{Option, subst}
use Rattle.subdoc_path.specs.declared.led.Led.TheVariants as led
use Rattle.subdoc_edit.specs.declared.parents.Around.{Around}
use Rattle.subdoc_edit.specs.Parents.{IsAround}
use Rattle.subdoc_edit.proofs.Trails.{led_as}
use Rattle.subdoc_edit.proofs.Gaps.{missed_within, missed_stands, makes_not, makes_none, makes_one}
use Rattle.subdoc_edit.proofs.deciding.make.Goals as goal

pub split_at-requires : goal.split_at-requires
split_at-requires c = missed_within c.args.text.now c.args.parts.now c.requires.missed.0 c.args.followed c.requires.missed.1

pub returns-then-not-may_make : goal.returns-then-not-may_make
returns-then-not-may_make c =
    makes_not c.args.one c.args.several c.may_make.result c.args.text.now c.args.value.now c.args.parts.now c.split_at.result.1.now c.args.followed c.args.content c.split_at.ensures.back c.may_make.ensures c.if-not-may_make.true

pub returns-in-None : goal.returns-in-None
returns-in-None c =
    makes_none c.args.one c.args.several c.may_make.result c.args.text.now c.args.value.now c.args.parts.now c.split_at.result.1.now c.args.followed c.args.content c.split_at.ensures.back c.may_make.ensures c.if-not-may_make.false
    (subst (λ (o : Option Around). IsAround c.split_at.result.1.now o) c.in-None.is c.in_ok-around.ensures)

pub follow-requires : goal.follow-requires
follow-requires c = let m = c.requires.missed in (m.0, m.1.is)

pub member_at-requires-clause-stands : goal.member_at-requires-clause-stands
member_at-requires-clause-stands c =
    let m = c.requires.missed in
    missed_stands c.args.text.now c.args.parts.now c.split_at.result.0.now m.0 c.args.followed c.in-At.at m.1 c.split_at.ensures.front
    (led_as c.args.text.now c.split_at.result.0.now m.0 c.follow.result (led.At c.in-At.at) c.in-At.is (c.follow.ensures m.0 m.1.is))

pub returns : goal.returns
returns c =
    makes_one c.args.one c.args.several c.may_make.result c.args.text.now c.args.value.now c.args.parts.now c.split_at.result.0.now c.split_at.result.1.now c.args.followed c.in-At.at c.args.content c.in-Some.around c.in_ok-plan.plan c.split_at.ensures.front c.split_at.ensures.back c.may_make.ensures c.if-not-may_make.false
    (subst (λ (o : Option Around). IsAround c.split_at.result.1.now o) c.in-Some.is c.in_ok-around.ensures)
    (λ d is. led_as c.args.text.now c.split_at.result.0.now d c.follow.result (led.At c.in-At.at) c.in-At.is (c.follow.ensures d is)) c.in_ok-plan.ensures.plan c.in_ok-plan.ensures.number
