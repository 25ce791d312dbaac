use Rattle.std.proofs.Common.{◌∙◌, refl}
use Rattle.xattr_body.proofs.Places.{taken_at, gone_at, none_taken, none_gone}
use Rattle.xattr_body.proofs.xattrs.remove.Goals as goal

pub returns-in-Some-clause-before : goal.returns-in-Some-clause-before
returns-in-Some-clause-before c =
    taken_at c.args.name.now c.args.name.now c.args.xattrs.now c.xattrs.inside.pairs.items c.deref.result.now c.in-Some.place c.remove-name.result
    c.xattrs.view_is c.deref.ensures.value refl c.in-Some.ensures c.remove-name.ensures.value

pub returns-in-Some-clause-removed : goal.returns-in-Some-clause-removed
returns-in-Some-clause-removed c =
    c.remove-name.ensures.items
    ∙ gone_at c.args.name.now c.args.name.now c.args.xattrs.now c.xattrs.inside.pairs.items c.deref.result.now c.in-Some.place c.xattrs.view_is c.deref.ensures.value refl c.in-Some.ensures

pub returns-in-None-clause-before : goal.returns-in-None-clause-before
returns-in-None-clause-before c = none_taken c.args.name.now c.args.name.now c.args.xattrs.now c.xattrs.inside.pairs.items c.deref.result.now c.xattrs.view_is c.deref.ensures.value refl c.in-None.ensures

pub returns-in-None-clause-removed : goal.returns-in-None-clause-removed
returns-in-None-clause-removed c = none_gone c.args.name.now c.args.name.now c.args.xattrs.now c.xattrs.inside.pairs.items c.deref.result.now c.xattrs.view_is c.deref.ensures.value refl c.in-None.ensures
