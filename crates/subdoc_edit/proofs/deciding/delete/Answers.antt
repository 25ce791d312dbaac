use Rattle.subdoc_path.specs.declared.led.Led.TheVariants as led
use Rattle.subdoc_edit.proofs.Trails.{led_as}
use Rattle.subdoc_edit.proofs.Decisions.{remove_decides, remove_part}
use Rattle.subdoc_edit.proofs.deciding.delete.Goals as goal

pub follow-requires : goal.follow-requires
follow-requires c = let r = c.requires.found in (r.0, r.1.is)

pub remove_at-requires : goal.remove_at-requires
remove_at-requires c =
    let r = c.requires.found in
    remove_part c.args.text.now c.args.parts.now c.split_at.result.0.now r.0 c.args.at c.in-At.whole c.requires.some c.split_at.ensures.front (led_as c.args.text.now c.split_at.result.0.now r.0 c.follow.result (led.At c.in-At.whole) c.in-At.is (c.follow.ensures r.0 r.1.is)) r.1

pub returns-in-At : goal.returns-in-At
returns-in-At c d several l asked gives describes =
    remove_decides several c.args.text.now c.args.value.now c.args.parts.now c.split_at.result.0.now d c.args.at c.in-At.whole c.remove_at.result asked c.requires.some c.split_at.ensures.front (led_as c.args.text.now c.split_at.result.0.now d c.follow.result (led.At c.in-At.whole) c.in-At.is (c.follow.ensures d l.is))
    c.remove_at.ensures.plan c.remove_at.ensures.number l gives
