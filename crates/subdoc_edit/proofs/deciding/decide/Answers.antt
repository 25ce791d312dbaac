use Rattle.subdoc_path.specs.declared.led.Led.TheVariants as led
use Rattle.subdoc_edit.proofs.Trails.{led_as}
use Rattle.subdoc_edit.proofs.deciding.decide.Goals as goal

pub returns-in-At : goal.returns-in-At
returns-in-At c d is =
    c.at_value.ensures d c.args.several (record { is = is; leads = led_as c.args.text.now c.args.parts.now d c.follow.result (led.At c.in-At.at) c.in-At.is (c.follow.ensures d is) })

pub returns-in-Missing : goal.returns-in-Missing
returns-in-Missing c d is =
    c.at_gap.ensures d (record { is = is; leads = led_as c.args.text.now c.args.parts.now d c.follow.result (led.Missing c.in-Missing.followed) c.in-Missing.is (c.follow.ensures d is) })
