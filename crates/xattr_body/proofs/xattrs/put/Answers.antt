use Rattle.std.proofs.Common.{◌∙◌}
use Rattle.xattr_body.proofs.Places.{put_at, put_end}
use Rattle.xattr_body.proofs.xattrs.put.Goals as goal

pub returns-in-Some-clause-ok : goal.returns-in-Some-clause-ok
returns-in-Some-clause-ok c =
    put_at c.args.name c.as_slice.result.now c.args.value c.args.xattrs.now c.xattrs.inside.pairs.items c.deref.result.now c.in-Some.place c.index_mut-pair.result.now
    c.xattrs.view_is c.deref.ensures.value c.as_slice.ensures c.in-Some.ensures c.index_mut-pair.ensures.value

pub returns-in_ok-push-in-None-clause-ok : goal.returns-in_ok-push-in-None-clause-ok
returns-in_ok-push-in-None-clause-ok c =
    c.in_ok-push-in-None.ensures.items
    ∙ put_end c.args.name c.as_slice.result.now c.args.value c.args.xattrs.now c.xattrs.inside.pairs.items c.deref.result.now c.xattrs.view_is c.deref.ensures.value c.as_slice.ensures c.in-None.ensures
