use Rattle.std.proofs.Common.{◌≡◌, ◌++◌, length}
use Rattle.xattr_body.specs.Pairs.{pairs_from}
use Rattle.xattr_step.specs.Object.{further_text}
use Rattle.xattr_edit.proofs.object.put_further.Given as goal

-- what is written and what the rest comes to are all
abbrev pub invariant-loop-name : goal.invariant-loop-name
invariant-loop-name l =
    l.out.items ++ further_text (pairs_from (length l.rest) l.rest) ≡ l.fn.out.items ++ further_text (pairs_from (length l.pairs) l.pairs)

abbrev pub decreases-loop-name : goal.decreases-loop-name
decreases-loop-name l = length l.rest
