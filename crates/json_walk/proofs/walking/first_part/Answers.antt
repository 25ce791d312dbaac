use Rattle.std.proofs.Common.{Some, sym, ap, ◌∙◌}
use Rattle.json_walk.specs.Telling.{part_of}
use Rattle.json_walk.proofs.Further.{none_of, holds}
use Rattle.json_walk.proofs.walking.first_part.Goals as goal

pub returns-in-None-clause-found : goal.returns-in-None-clause-found
returns-in-None-clause-found c t s = none_of t c.args.at 0 (c.in-None.ensures.found t s)

pub returns-in-Some-clause-found : goal.returns-in-Some-clause-found
returns-in-Some-clause-found c t s =
    let h = holds c.args.text.now c.args.at c.in-Some.shape t s (c.in-Some.ensures.found t s) in
    ap Some (c.part_from.ensures.found h.parts h.there) ∙ ap (part_of 0 c.args.at) (sym h.tree_is)
