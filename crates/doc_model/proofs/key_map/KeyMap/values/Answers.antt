use Rattle.doc_model.proofs.Listed.{trees_values}
use Rattle.doc_model.proofs.key_map.KeyMap.values.Goals as goal

pub returns : goal.returns
returns g c =
    trees_values c.self.inside.slots.entries c.self.inside.others.entries c.args.self.now c.values.result c.values-2.result
    c.self.view_is c.self.invariant c.values.ensures.rest c.values-2.ensures.rest
