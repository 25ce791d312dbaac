use Rattle.std.proofs.Common.{sym}
use Rattle.xattr_body.proofs.Fronts.{all_there, more_there, shorter}
use Rattle.xattr_body.proofs.known.front_pairs.Goals as goal

pub loop-name-preserved : goal.loop-name-preserved
loop-name-preserved c =
    more_there c.args.bytes.now c.loop-name.rest.now c.in-Some.next.now c.loop-name.pairs.items c.add_pair.new.pairs.items (c.in-Some.name.now, c.in-Some.value.now)
    c.loop-name.invariant c.in-Some.ensures c.in_ok-add_pair.ensures

pub loop-name-smaller : goal.loop-name-smaller
loop-name-smaller c = shorter c.loop-name.rest.now c.in-Some.next.now (c.in-Some.name.now, c.in-Some.value.now) (sym c.in-Some.ensures)

pub returns : goal.returns
returns c = all_there c.args.bytes.now c.loop-name.rest.now c.loop-name.pairs.items c.loop-name.invariant c.in_default.ensures
