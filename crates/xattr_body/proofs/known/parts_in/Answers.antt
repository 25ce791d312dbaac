use Rattle.std.proofs.Common.{List, ℕ, ap, sym, ◌∙◌}
use Rattle.xattr_body.proofs.Fronts.{some_pair, no_pair_in, pair_split, none_left}
use Rattle.xattr_body.proofs.known.parts_in.Goals as goal

pub returns-in-None : goal.returns-in-None
returns-in-None c = sym (no_pair_in c.args.body.now c.in-None.ensures)

pub returns-in-empty : goal.returns-in-empty
returns-in-empty c =
    let rest = c.in-Some.rest.now in
    ap (λ (l : List ℕ). some_pair c.in-Some.name.now l) (none_left rest c.in-empty.len_below) ∙ sym (pair_split c.args.body.now c.in-Some.name.now rest c.in-Some.ensures)

pub returns-in-len1-up : goal.returns-in-len1-up
returns-in-len1-up c = sym (pair_split c.args.body.now c.in-Some.name.now c.in-Some.rest.now c.in-Some.ensures)
