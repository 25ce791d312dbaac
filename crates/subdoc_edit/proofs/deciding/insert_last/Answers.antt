use Rattle.subdoc_path.specs.declared.led.Led.TheVariants as led
use Rattle.subdoc_edit.proofs.Pieces.{standing_within}
use Rattle.subdoc_edit.proofs.Trails.{led_as}
use Rattle.subdoc_edit.proofs.Gaps.{missed_within, missed_stands, insert_no_index, insert_other, insert_end}
use Rattle.subdoc_edit.proofs.deciding.insert_last.Goals as goal

pub split_at-requires : goal.split_at-requires
split_at-requires c = missed_within c.args.text.now c.args.parts.now c.requires.missed.0 c.args.followed c.requires.missed.1

pub returns-in-None : goal.returns-in-None
returns-in-None c d m asked gives describes =
    insert_no_index c.args.several c.args.text.now c.args.value.now c.args.parts.now c.split_at.result.1.now d c.args.followed c.args.given asked c.split_at.ensures.back c.in-None.ensures m gives

pub follow-requires : goal.follow-requires
follow-requires c = let m = c.requires.missed in (m.0, m.1.is)

pub push_at-requires-clause-stands : goal.push_at-requires-clause-stands
push_at-requires-clause-stands c =
    let m = c.requires.missed in
    missed_stands c.args.text.now c.args.parts.now c.split_at.result.0.now m.0 c.args.followed c.in-At.at m.1 c.split_at.ensures.front
    (led_as c.args.text.now c.split_at.result.0.now m.0 c.follow.result (led.At c.in-At.at) c.in-At.is (c.follow.ensures m.0 m.1.is))

pub count-requires : goal.count-requires
count-requires c =
    let m = c.requires.missed in
    standing_within c.args.text.now c.in-At.at
    (missed_stands c.args.text.now c.args.parts.now c.split_at.result.0.now m.0 c.args.followed c.in-At.at m.1 c.split_at.ensures.front
    (led_as c.args.text.now c.split_at.result.0.now m.0 c.follow.result (led.At c.in-At.at) c.in-At.is (c.follow.ensures m.0 m.1.is)))

pub returns-then-count-number : goal.returns-then-count-number
returns-then-count-number c d m asked gives describes =
    insert_other c.args.several c.args.text.now c.args.value.now c.args.parts.now c.split_at.result.0.now c.split_at.result.1.now d c.args.followed c.in-At.at c.in-Some.number c.count.result asked c.split_at.ensures.front c.split_at.ensures.back c.in-Some.ensures
    (led_as c.args.text.now c.split_at.result.0.now d c.follow.result (led.At c.in-At.at) c.in-At.is (c.follow.ensures d m.is)) c.count.ensures.found c.if-count-number.true m gives

pub returns : goal.returns
returns c d m asked gives describes =
    insert_end c.args.several c.args.text.now c.args.value.now c.args.parts.now c.split_at.result.0.now c.split_at.result.1.now d c.args.followed c.in-At.at c.in-Some.number c.count.result c.args.given c.in_ok-plan.plan asked c.split_at.ensures.front c.split_at.ensures.back c.in-Some.ensures
    (led_as c.args.text.now c.split_at.result.0.now d c.follow.result (led.At c.in-At.at) c.in-At.is (c.follow.ensures d m.is)) c.count.ensures.found c.if-count-number.false c.in_ok-plan.ensures.plan c.in_ok-plan.ensures.number m gives describes
