use Rattle.std.specs.Prelude.{IsTrue, false}
use Rattle.std.proofs.Common.{rules, ℕ, List, sym, subst, arith}
use Rattle.json_model.specs.Grammar.{IsString}
use Rattle.subdoc_path.proofs.Walking.{looked, left_none, found_here, not_here, after_more, key_fits}
use Rattle.subdoc_path.proofs.children.member.Goals as goal

is_false : IsTrue false → ⊥
is_false h = cc

pub returns-in-None : goal.returns-in-None
returns-in-None c at ps s e =
    let f = looked c.args.text.now c.args.nodes.now c.args.name.now c.args.from c.args.end ps c.loop-next.next (c.loop-next.invariant at ps s e) c.loop-next-test.true in
    absurd (omega (arith, c.in-None.ensures.lookup.3, f.1.within))

pub cut-requires : goal.cut-requires
cut-requires c =
    let r = c.requires in
    let f = looked c.args.text.now c.args.nodes.now c.args.name.now c.args.from c.args.end r.1 c.loop-next.next (c.loop-next.invariant r.0 r.1 r.2 r.3) c.loop-next-test.true in
    let k = key_fits c.args.text.now c.args.nodes.now c.loop-next.next f.0 c.in-Some.node.now f.1 c.in-Some.ensures.lookup.1 in
    (k.ordered, k.within)

pub stands_for-requires : goal.stands_for-requires
stands_for-requires c =
    let r = c.requires in
    let f = looked c.args.text.now c.args.nodes.now c.args.name.now c.args.from c.args.end r.1 c.loop-next.next (c.loop-next.invariant r.0 r.1 r.2 r.3) c.loop-next-test.true in
    let k = key_fits c.args.text.now c.args.nodes.now c.loop-next.next f.0 c.in-Some.node.now f.1 c.in-Some.ensures.lookup.1 in
    subst (λ (l : List ℕ). IsString l) (sym c.cut.ensures) k.fits

pub returns-then-stands_for : goal.returns-then-stands_for
returns-then-stands_for c at ps s e =
    found_here c.args.text.now c.args.nodes.now c.args.name.now c.args.from c.args.end ps c.loop-next.next c.in-Some.node.now c.cut.result.now (c.loop-next.invariant at ps s e) c.loop-next-test.true
    c.in-Some.ensures.lookup.1 c.cut.ensures (c.if-stands_for.ensures.0 (search rules))

pub loop-next-smaller : goal.loop-next-smaller
loop-next-smaller c =
    let r = c.requires in
    let f = looked c.args.text.now c.args.nodes.now c.args.name.now c.args.from c.args.end r.1 c.loop-next.next (c.loop-next.invariant r.0 r.1 r.2 r.3) c.loop-next-test.true in
    omega (arith, c.loop-next-test.true, after_more c.args.text.now c.args.nodes.now c.loop-next.next f.0 c.in-Some.node.now f.1 c.in-Some.ensures.lookup.1)

pub loop-next-preserved : goal.loop-next-preserved
loop-next-preserved c at ps s e =
    not_here c.args.text.now c.args.nodes.now c.args.name.now c.args.from c.args.end ps c.loop-next.next c.in-Some.node.now c.cut.result.now (c.loop-next.invariant at ps s e) c.loop-next-test.true
    c.in-Some.ensures.lookup.1 c.cut.ensures (λ w. is_false (c.if-stands_for.ensures.1 w))

pub returns : goal.returns
returns c at ps s e = left_none c.args.text.now c.args.nodes.now c.args.name.now c.args.from c.args.end ps c.loop-next.next (c.loop-next.invariant at ps s e) c.loop-next-test.false
