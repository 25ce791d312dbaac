use Rattle.std.proofs.Common.{◌∙◌, sym, arith}
use Rattle.vb_log.proofs.Commits.{none_made, is_next, next_counts, one_made, all_made, next_taken, some_left}
use Rattle.vb_log.proofs.Together.{none_in}
use Rattle.vb_log.proofs.settling.make_each.Goals as goal

pub loop-key-init : goal.loop-key-init
loop-key-init c = none_made c.args.manifest.now c.args.items.now c.args.waiting.now.items c.args.keys.now c.args.position c.requires

pub returns-in-None : goal.returns-in-None
returns-in-None c =
    absurd (some_left c.loop-key.key-index c.key-item.result c.loop-key.invariant (none_in c.loop-key.waiting.items (sym c.loop-key.waiting.ok.0 ∙ c.in-None.ensures.cases.0)) c.loop-key-test.true c.key-item.is)

pub size_of-counted-requires : goal.size_of-counted-requires
size_of-counted-requires c =
    let now = next_taken c.pop_front.new.self.items c.in-Some.change c.loop-key.key-index c.key-item.result c.loop-key.invariant c.in-Some.ensures.items c.loop-key-test.true c.key-item.is in
    let next = is_next now.can in
    let fits = next.fits in
    omega arith

pub overflow_add-counted : goal.overflow_add-counted
overflow_add-counted c =
    let now = next_taken c.pop_front.new.self.items c.in-Some.change c.loop-key.key-index c.key-item.result c.loop-key.invariant c.in-Some.ensures.items c.loop-key-test.true c.key-item.is in
    let more = next_counts now in
    let all = c.requires.fits in
    omega (arith, c.size_of-counted.ensures)

pub overflow_add-last : goal.overflow_add-last
overflow_add-last c =
    let now = next_taken c.pop_front.new.self.items c.in-Some.change c.loop-key.key-index c.key-item.result c.loop-key.invariant c.in-Some.ensures.items c.loop-key-test.true c.key-item.is in
    let next = is_next now.can in
    let short = next.short in
    omega arith

pub make_one-requires : goal.make_one-requires
make_one-requires c =
    let now = next_taken c.pop_front.new.self.items c.in-Some.change c.loop-key.key-index c.key-item.result c.loop-key.invariant c.in-Some.ensures.items c.loop-key-test.true c.key-item.is in
    let next = is_next now.can in
    record { own = next.own; has = next.have; room = let fits = next.fits in omega arith }

pub loop-key-preserved : goal.loop-key-preserved
loop-key-preserved c =
    one_made c.make_one.new.items c.size_of-counted.result
    (next_taken c.pop_front.new.self.items c.in-Some.change c.loop-key.key-index c.key-item.result c.loop-key.invariant c.in-Some.ensures.items c.loop-key-test.true c.key-item.is)
    c.make_one.ensures c.size_of-counted.ensures

pub returns : goal.returns
returns c = record { made = all_made c.loop-key.key-index c.loop-key.invariant c.loop-key-test.false; counted = c.loop-key.invariant.counts; rise = c.loop-key.invariant.can.rise }
