use Rattle.std.proofs.Common.{◌+◌, subst, nat_eq, eq-eqb, arith, sym}
use Rattle.doc_model.proofs.Listed.{Counts, counts_one, counts_fit}
use Rattle.doc_model.proofs.weighing.others_weight.Goals as goal

pub weigh-total-requires : goal.weigh-total-requires
weigh-total-requires g c =
    let fits = counts_fit (λ e. g.W.Weigh.weight e.1) (λ e. nat_eq e.0.collection c.args.collection) c.args.others.now.entries c.loop-key.key-iterator c.next.new.self (c.in-Some.key.now, c.in-Some.value.now) c.loop-key.total
    c.loop-key.invariant c.in-Some.ensures.steps (eq-eqb c.in-Some.key.now.collection c.args.collection c.if-key-collection.true) in
    let all = c.requires in
    omega arith

pub overflow_add-total : goal.overflow_add-total
overflow_add-total g c =
    let fits = counts_fit (λ e. g.W.Weigh.weight e.1) (λ e. nat_eq e.0.collection c.args.collection) c.args.others.now.entries c.loop-key.key-iterator c.next.new.self (c.in-Some.key.now, c.in-Some.value.now) c.loop-key.total
    c.loop-key.invariant c.in-Some.ensures.steps (eq-eqb c.in-Some.key.now.collection c.args.collection c.if-key-collection.true) in
    let all = c.requires in
    omega (arith, c.weigh-total.ensures)

pub loop-key-preserved-then-key-collection : goal.loop-key-preserved-then-key-collection
loop-key-preserved-then-key-collection g c =
    subst (λ n. Counts (λ e. g.W.Weigh.weight e.1) (λ e. nat_eq e.0.collection c.args.collection) c.args.others.now.entries c.next.new.self (c.loop-key.total + n)) (sym c.weigh-total.ensures)
    (counts_one (λ e. g.W.Weigh.weight e.1) (λ e. nat_eq e.0.collection c.args.collection) c.args.others.now.entries c.loop-key.key-iterator c.next.new.self (c.in-Some.key.now, c.in-Some.value.now) c.loop-key.total
    c.loop-key.invariant c.in-Some.ensures.steps (eq-eqb c.in-Some.key.now.collection c.args.collection c.if-key-collection.true))
