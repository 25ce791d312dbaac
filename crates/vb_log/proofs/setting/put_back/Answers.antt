use Rattle.std.proofs.Common.{◌∙◌, ap, subst, arith}
use Rattle.vb_log.specs.Held.{items_size}
use Rattle.vb_log.specs.Joining.{Noted}
use Rattle.vb_log.proofs.Together.{noted_has, back_set, back_removed}
use Rattle.vb_log.proofs.setting.put_back.Goals as goal

pub replace-requires-clause-has : goal.replace-requires-clause-has
replace-requires-clause-has c = noted_has c.requires.0 c.args.items.now (c.args.key.now, c.args.had) c.requires.1

pub replace-requires-clause-room : goal.replace-requires-clause-room
replace-requires-clause-room c =
    let noted = subst (λ h. Noted c.requires.0 c.args.items.now (c.args.key.now, h)) c.in-Some.is c.requires.1 in
    let back = ap items_size (back_set c.requires.0 c.args.items.now c.args.key.now c.in-Some.item noted) in
    let fits = c.requires.1.fits in
    omega arith

pub returns-in-Some : goal.returns-in-Some
returns-in-Some c = λ before noted.
    c.replace.ensures ∙ back_set before c.args.items.now c.args.key.now c.in-Some.item (subst (λ h. Noted before c.args.items.now (c.args.key.now, h)) c.in-Some.is noted)

pub returns-in-None : goal.returns-in-None
returns-in-None c = λ before noted.
    c.remove.ensures.removed ∙ back_removed before c.args.items.now c.args.key.now (subst (λ h. Noted before c.args.items.now (c.args.key.now, h)) c.in-None.is noted)
