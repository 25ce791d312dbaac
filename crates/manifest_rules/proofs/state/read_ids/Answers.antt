use Rattle.std.proofs.Common.{◌≡◌, ◌+◌, ◌*◌, ◌<◌, length, drop, sym, ap, subst, arith}
use Rattle.manifest_rules.specs.declared.types.TheConstants.{DROPPED_LIMIT}
use Rattle.manifest_rules.specs.State.{CountAt, NoId}
use Rattle.manifest_rules.proofs.Faults.{IdsRead, ids_begin, ids_break, ids_all}
use Rattle.manifest_rules.proofs.state.read_ids.Goals as goal

pub loop-init : goal.loop-init
loop-init c =
    let part = drop c.args.start c.args.bytes.now in
    let at : CountAt DROPPED_LIMIT part c.in-Some.found.0 c.in-Some.found.1.now = subst (λ b. CountAt DROPPED_LIMIT b c.in-Some.found.0 c.in-Some.found.1.now) c.split_at.ensures.back c.in-Some.ensures in
    record {
      read = subst (λ l. IdsRead c.in_ok-present.present.items part c.in-Some.found.0 l c.in-Some.found.1.now) (sym c.new-ids.ensures.items) (ids_begin c.in_ok-present.present.items part c.in-Some.found.1.now c.in-Some.found.0 at);
      counted = ap length c.new-ids.ensures.items;
    }

pub returns-in-None-id_at-clause-breaks : goal.returns-in-None-id_at-clause-breaks
returns-in-None-id_at-clause-breaks c =
    let part = drop c.args.start c.args.bytes.now in
    let present = c.in_ok-present.present.items in
    let ids = c.loop.ids.items in
    let none : NoId present ids c.loop.left.now = subst (λ l. NoId l ids c.loop.left.now) c.as_slice-in-loop.ensures.value (subst (λ l. NoId c.as_slice-in-loop.result.now l c.loop.left.now) c.as_slice.ensures.value c.in-None-id_at.ensures) in
    let less : length ids < c.in-Some.found.0 = omega (arith, c.loop.invariant.counted, c.loop-test.true) in
    (4 + 4 * length ids, omega (arith, c.len.ensures), ids_break c.args.present.now present part ids c.loop.left.now c.in-Some.found.0 c.in_ok-present.ensures.same c.loop.invariant.read less none)

pub returns-clause-found : goal.returns-clause-found
returns-clause-found c =
    let part = drop c.args.start c.args.bytes.now in
    let all : length c.loop.ids.items ≡ c.in-Some.found.0 = omega (arith, c.loop.invariant.counted, c.loop-test.false) in
    ids_all c.args.present.now c.in_ok-present.present.items part c.loop.ids.items c.loop.left.now c.in-Some.found.0 c.in_ok-present.ensures.same c.loop.invariant.read all
