use Rattle.std.proofs.Common.{sym, ◌∙◌}
use Rattle.xattr_body.proofs.Fronts.{in_some, in_none}
use Rattle.xattr_body.proofs.known.pairs_of.Goals as goal

pub returns-in_ok-front_pairs-in-Some : goal.returns-in_ok-front_pairs-in-Some
returns-in_ok-front_pairs-in-Some c =
    c.from_pairs.ensures ∙ c.in_ok-front_pairs-in-Some.ensures ∙ sym (in_some c.args.bytes.now c.in-Some.behind.now c.in-Some.field-0-0 c.in-Some.ensures)

pub returns-in-None : goal.returns-in-None
returns-in-None c = c.new.ensures ∙ sym (in_none c.args.bytes.now c.in-None.ensures)
