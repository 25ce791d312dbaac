use Rattle.std.proofs.Common.{◌≡◌, ◌++◌, length}
use Rattle.std.proofs.lemmas.Result.{IfOk-weaker}
use Rattle.xattr_body.specs.Pairs.{pairs_from}
use Rattle.xattr_step.specs.Object.{further_text, members_text}
use Rattle.xattr_edit.proofs.Objects.{members_none, members_some}
use Rattle.xattr_edit.proofs.object.put_members.Goals as goal

pub returns-in-None : goal.returns-in-None
returns-in-None c = members_none c.args.out.now.items c.args.pairs.now c.in-None.ensures

pub returns-in_ok-put_member-in-Some : goal.returns-in_ok-put_member-in-Some
returns-in_ok-put_member-in-Some c =
    let rest = c.in-Some.rest.now in
    IfOk-weaker c.put_further.result (λ done. c.put_further.new.out.items ≡ c.put_member.new.out.items ++ further_text (pairs_from (length rest) rest))
    (λ done. c.put_further.new.out.items ≡ c.args.out.now.items ++ members_text (pairs_from (length c.args.pairs.now) c.args.pairs.now))
    (λ done e. members_some c.args.out.now.items c.put_member.new.out.items c.put_further.new.out.items c.args.pairs.now rest (c.in-Some.name.now, c.in-Some.text.now) c.in-Some.ensures c.in_ok-put_member-in-Some.ensures e)
    c.put_further.ensures
