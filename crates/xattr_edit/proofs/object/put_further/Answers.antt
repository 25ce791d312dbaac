use Rattle.std.proofs.Common.{List, ℕ, ◌++◌, length, sym}
use Rattle.xattr_body.specs.Pairs.{pairs_from}
use Rattle.xattr_body.proofs.Fronts.{shorter}
use Rattle.xattr_step.specs.Object.{further_text}
use Rattle.xattr_edit.proofs.Objects.{further_none, further_more}
use Rattle.xattr_edit.proofs.object.put_further.Goals as goal

pub loop-name-smaller : goal.loop-name-smaller
loop-name-smaller c = shorter c.loop-name.rest.now c.in-Some.next.now (c.in-Some.name.now, c.in-Some.text.now) (sym c.in-Some.ensures)

pub loop-name-preserved : goal.loop-name-preserved
loop-name-preserved c =
    let all : List ℕ = c.args.out.now.items ++ further_text (pairs_from (length c.args.pairs.now) c.args.pairs.now) in
    further_more all c.loop-name.out.items c.push.new.self.items c.put_member.new.out.items c.loop-name.rest.now c.in-Some.next.now (c.in-Some.name.now, c.in-Some.text.now) c.loop-name.invariant c.in-Some.ensures
    c.in_ok-push.ensures.items c.in_ok-put_member.ensures

pub returns : goal.returns
returns c =
    let all : List ℕ = c.args.out.now.items ++ further_text (pairs_from (length c.args.pairs.now) c.args.pairs.now) in
    further_none all c.loop-name.out.items c.loop-name.rest.now c.loop-name.invariant c.in_default.ensures
