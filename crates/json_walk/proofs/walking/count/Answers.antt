use Rattle.std.proofs.Common.{sym, ap, ◌∙◌}
use Rattle.json_walk.specs.Telling.{many_of}
use Rattle.json_walk.proofs.Further.{holds, no_children}
use Rattle.json_walk.proofs.walking.count.Goals as goal

pub returns-in-None-clause-found : goal.returns-in-None-clause-found
returns-in-None-clause-found c t s = no_children t (c.in-None.ensures.found t s)

pub returns-in-Some-clause-found : goal.returns-in-Some-clause-found
returns-in-Some-clause-found c t s =
    let h = holds c.args.text.now c.args.at c.in-Some.shape t s (c.in-Some.ensures.found t s) in
    (c.all_parts_from.ensures.found h.parts h.there).0 ∙ ap many_of (sym h.tree_is)
