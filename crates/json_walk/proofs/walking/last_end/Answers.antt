use Rattle.std.proofs.Common.{Some, sym, ap, ◌∙◌}
use Rattle.json_walk.specs.Telling.{last_end_of}
use Rattle.json_walk.proofs.Further.{holds, no_last}
use Rattle.json_walk.proofs.walking.last_end.Goals as goal

pub returns-in-None-clause-found : goal.returns-in-None-clause-found
returns-in-None-clause-found c t s = no_last t c.args.at (c.in-None.ensures.found t s)

pub returns-in-Some-clause-found : goal.returns-in-Some-clause-found
returns-in-Some-clause-found c t s =
    let h = holds c.args.text.now c.args.at c.in-Some.shape t s (c.in-Some.ensures.found t s) in
    ap Some (c.all_parts_from.ensures.found h.parts h.there).1 ∙ ap (last_end_of c.args.at) (sym h.tree_is)
