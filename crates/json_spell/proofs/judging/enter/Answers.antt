use Rattle.std.proofs.Common.{◌-◌, length, take, drop, refl, sym, ap, ◌∙◌}
use Rattle.json_model.specs.declared.TheConstants.{MOST_DEEP}
use Rattle.json_spell.specs.declared.judging.Place.TheVariants as places
use Rattle.json_spell.specs.Machine.{verdict}
use Rattle.json_spell.specs.Turns.{state_at}
use Rattle.json_spell.proofs.Turned.{enter_deep, enter_on, not_full}
use Rattle.json_spell.proofs.judging.enter.Goals as goal

pub returns-then-is_full : goal.returns-then-is_full
returns-then-is_full c = enter_deep c.args.brackets.count c.args.brackets.objects c.args.shape c.args.bytes.now c.args.brackets.few (c.if-is_full.ensures.0 refl) c.requires

pub returns-in-len1-up : goal.returns-in-len1-up
returns-in-len1-up c =
    let on = enter_on c.args.brackets.count c.args.brackets.objects c.args.shape c.args.bytes.now (not_full c.args.brackets.count c.if-is_full.ensures.1) c.requires in
    (on.0 ∙ sym (ap (λ s. verdict MOST_DEEP (state_at places.Opened s) (take (length c.args.bytes.now - 1) (drop 1 c.args.bytes.now))) c.with.ensures), on.1)
