use Rattle.std.proofs.Common.{◌+◌, ◌∙◌, ap, subst, filter, nat_eq, eq-eqb, arith, sym}
use Rattle.doc_model.proofs.Listed.{Counts, counts_one, counts_fit, counts_end, stand_start, stand_more, range_start, none_left}
use Rattle.doc_model.proofs.weighing.slots_weight.Goals as goal

pub loop-slot-init : goal.loop-slot-init
loop-slot-init g c =
    let is = c.into_iter-slot-iterator.ensures.into_iter_gives ∙ c.range-slot-items.ensures.between tt in
    record {
      counts = range_start (λ e. g.W.Weigh.weight e.1.1) c.args.collection c.into_iter-slot-iterator.result c.args.slots.now.entries is;
      stands = stand_start c.args.collection c.into_iter-slot-iterator.result c.args.slots.now.entries is c.range-slot-items.ensures.ordered;
    }

pub returns-then-slot-collection : goal.returns-then-slot-collection
returns-then-slot-collection g c =
    counts_end (λ e. g.W.Weigh.weight e.1.1) (λ e. nat_eq e.0.collection c.args.collection) c.args.slots.now.entries c.loop-slot.slot-iterator c.loop-slot.total c.loop-slot.invariant.counts
    (none_left c.args.collection c.loop-slot.slot-iterator c.next.new.self (c.in-Some.slot.now, c.in-Some.entry.now) c.loop-slot.invariant.stands c.in-Some.ensures.steps c.if-slot-collection.true)

pub weigh-total-requires : goal.weigh-total-requires
weigh-total-requires g c =
    let fits = counts_fit (λ e. g.W.Weigh.weight e.1.1) (λ e. nat_eq e.0.collection c.args.collection) c.args.slots.now.entries c.loop-slot.slot-iterator c.next.new.self (c.in-Some.slot.now, c.in-Some.entry.now) c.loop-slot.total
    c.loop-slot.invariant.counts c.in-Some.ensures.steps (eq-eqb c.in-Some.slot.now.collection c.args.collection c.if-slot-collection.false) in
    let all = c.requires in
    omega arith

pub overflow_add-total : goal.overflow_add-total
overflow_add-total g c =
    let fits = counts_fit (λ e. g.W.Weigh.weight e.1.1) (λ e. nat_eq e.0.collection c.args.collection) c.args.slots.now.entries c.loop-slot.slot-iterator c.next.new.self (c.in-Some.slot.now, c.in-Some.entry.now) c.loop-slot.total
    c.loop-slot.invariant.counts c.in-Some.ensures.steps (eq-eqb c.in-Some.slot.now.collection c.args.collection c.if-slot-collection.false) in
    let all = c.requires in
    omega (arith, c.weigh-total.ensures)

pub loop-slot-preserved : goal.loop-slot-preserved
loop-slot-preserved g c =
    let at = eq-eqb c.in-Some.slot.now.collection c.args.collection c.if-slot-collection.false in
    record {
      counts = subst (λ n. Counts (λ e. g.W.Weigh.weight e.1.1) (λ e. nat_eq e.0.collection c.args.collection) c.args.slots.now.entries c.next.new.self (c.loop-slot.total + n)) (sym c.weigh-total.ensures)
          (counts_one (λ e. g.W.Weigh.weight e.1.1) (λ e. nat_eq e.0.collection c.args.collection) c.args.slots.now.entries c.loop-slot.slot-iterator c.next.new.self (c.in-Some.slot.now, c.in-Some.entry.now) c.loop-slot.total
          c.loop-slot.invariant.counts c.in-Some.ensures.steps at);
      stands = stand_more c.args.collection c.loop-slot.slot-iterator c.next.new.self (c.in-Some.slot.now, c.in-Some.entry.now) c.loop-slot.invariant.stands c.in-Some.ensures.steps;
    }

pub returns : goal.returns
returns g c =
    counts_end (λ e. g.W.Weigh.weight e.1.1) (λ e. nat_eq e.0.collection c.args.collection) c.args.slots.now.entries c.loop-slot.slot-iterator c.loop-slot.total c.loop-slot.invariant.counts
    (ap (filter (λ e. nat_eq e.0.collection c.args.collection)) c.in-None.ensures.steps.0)
