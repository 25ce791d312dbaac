use Rattle.std.proofs.Common.{◌∙◌, ap₂, ◌+◌, nat_eq, sym, arith}
use Rattle.doc_model.proofs.Listed.{passing_le, trees_weight, collection_weight}
use Rattle.doc_model.proofs.key_map.KeyMap.weight_in.Goals as goal

pub slots_weight-requires : goal.slots_weight-requires
slots_weight-requires g c =
    let whole = trees_weight g.W.Weigh.weight c.self.inside.slots.entries c.self.inside.others.entries c.args.self.now c.self.view_is c.self.invariant in
    let fits = c.requires in
    omega arith

pub others_weight-requires : goal.others_weight-requires
others_weight-requires g c =
    let whole = trees_weight g.W.Weigh.weight c.self.inside.slots.entries c.self.inside.others.entries c.args.self.now c.self.view_is c.self.invariant in
    let fits = c.requires in
    omega arith

pub overflow_add-result : goal.overflow_add-result
overflow_add-result g c =
    let whole = trees_weight g.W.Weigh.weight c.self.inside.slots.entries c.self.inside.others.entries c.args.self.now c.self.view_is c.self.invariant in
    let slots = passing_le (λ e. g.W.Weigh.weight e.1.1) (λ e. nat_eq e.0.collection c.args.collection) c.self.inside.slots.entries in
    let others = passing_le (λ e. g.W.Weigh.weight e.1) (λ e. nat_eq e.0.collection c.args.collection) c.self.inside.others.entries in
    let fits = c.requires in
    omega (arith, c.slots_weight.ensures, c.others_weight.ensures)

pub returns : goal.returns
returns g c =
    ap₂ (λ a b. a + b) c.slots_weight.ensures c.others_weight.ensures
    ∙ sym (collection_weight g.W.Weigh.weight c.self.inside.slots.entries c.self.inside.others.entries c.args.self.now c.args.collection c.self.view_is c.self.invariant)
