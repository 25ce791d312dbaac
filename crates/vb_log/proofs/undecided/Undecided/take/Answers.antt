use Rattle.std.specs.Prelude.{nat_eq, position}
use Rattle.std.proofs.Common.{◌∙◌, ap, sym, arith}
use Rattle.vb_log.specs.Content.{prepare_at, other_than}
use Rattle.vb_log.specs.Held.{waiting_size, positions_rise}
use Rattle.vb_log.proofs.Prepared.{none_stands, all_left, removes}
use Rattle.vb_log.proofs.undecided.Undecided.take.Goals as goal

pub size_of-requires : goal.size_of-requires
size_of-requires c =
    let r = removes c.args.of c.self.inside.changes.items c.as_slice.result.now c.self.inside.size c.in-Some.place c.remove-change.result c.as_slice.ensures.value c.in-Some.ensures c.remove-change.ensures.value c.self.invariant.0 c.self.invariant.1 in
    omega arith

pub overflow_sub-self : goal.overflow_sub-self
overflow_sub-self c =
    let r = removes c.args.of c.self.inside.changes.items c.as_slice.result.now c.self.inside.size c.in-Some.place c.remove-change.result c.as_slice.ensures.value c.in-Some.ensures c.remove-change.ensures.value c.self.invariant.0 c.self.invariant.1 in
    omega (arith, c.size_of.ensures)

pub invariant_of-self : goal.invariant_of-self
invariant_of-self c =
    let r = removes c.args.of c.self.inside.changes.items c.as_slice.result.now c.self.inside.size c.in-Some.place c.remove-change.result c.as_slice.ensures.value c.in-Some.ensures c.remove-change.ensures.value c.self.invariant.0 c.self.invariant.1 in
    let new = ap waiting_size c.remove-change.ensures.items in
    (omega (arith, c.size_of.ensures), ap positions_rise c.remove-change.ensures.items ∙ r.rise)

pub returns-in-Some-clause-before : goal.returns-in-Some-clause-before
returns-in-Some-clause-before c =
    let r = removes c.args.of c.self.inside.changes.items c.as_slice.result.now c.self.inside.size c.in-Some.place c.remove-change.result c.as_slice.ensures.value c.in-Some.ensures c.remove-change.ensures.value c.self.invariant.0 c.self.invariant.1 in
    sym r.found ∙ ap (λ l. prepare_at l c.args.of) c.self.view_is

pub returns-in-Some-clause-after : goal.returns-in-Some-clause-after
returns-in-Some-clause-after c =
    let r = removes c.args.of c.self.inside.changes.items c.as_slice.result.now c.self.inside.size c.in-Some.place c.remove-change.result c.as_slice.ensures.value c.in-Some.ensures c.remove-change.ensures.value c.self.invariant.0 c.self.invariant.1 in
    c.remove-change.ensures.items ∙ r.left ∙ ap (other_than c.args.of) c.self.view_is

pub returns-in-None-clause-before : goal.returns-in-None-clause-before
returns-in-None-clause-before c =
    sym (none_stands (λ p. nat_eq p.position c.args.of) c.self.inside.changes.items (c.in-None.ensures ∙ ap (position (λ p. nat_eq p.position c.args.of)) c.as_slice.ensures.value))
    ∙ ap (λ l. prepare_at l c.args.of) c.self.view_is

pub returns-in-None-clause-after : goal.returns-in-None-clause-after
returns-in-None-clause-after c =
    sym (all_left c.args.of c.args.self.now (
    ap (λ l. prepare_at l c.args.of) (sym c.self.view_is)
    ∙ none_stands (λ p. nat_eq p.position c.args.of) c.self.inside.changes.items (c.in-None.ensures ∙ ap (position (λ p. nat_eq p.position c.args.of)) c.as_slice.ensures.value)))
