use Rattle.std.proofs.Common.{◌≡◌, ℕ, ◌+◌, arith, sym, ◌∙◌, subst}
use Rattle.std.specs.Prelude.{max}
use Rattle.subdoc_edit.proofs.GivenDepths.{Goes, no_tree, goes_turn, goes_end, leaf_at, empty_at, group_at, max_is}
use Rattle.subdoc_edit.proofs.depths.+depth_of.Goals as goal

pub depth_of-returns-in-empty-clause-depth : goal.depth_of-returns-in-empty-clause-depth
depth_of-returns-in-empty-clause-depth t c = no_tree c.args.nodes.now 0 c.args.nodes.now (omega arith)

pub depth_of-returns-then-not-holds_others-clause-depth : goal.depth_of-returns-then-not-holds_others-clause-depth
depth_of-returns-then-not-holds_others-clause-depth t c = leaf_at c.args.nodes.now _ c.in-len1-up.len_at_least (sym c.holds_others.ensures ∙ c.if-not-holds_others.true)

pub depth_of-returns-clause-depth : goal.depth_of-returns-clause-depth
depth_of-returns-clause-depth t c =
    group_at c.args.nodes.now _ c.pass-parts.result.depth c.saturating_add.result c.pass-parts.result.end c.pass-parts.result.rest.now c.in-len1-up.len_at_least
    (sym c.holds_others.ensures ∙ c.if-not-holds_others.false) c.if-node-eq0.false c.pass-parts.ensures.passed c.saturating_add.ensures

pub depth_of-returns-then-node-eq0-clause-depth : goal.depth_of-returns-then-node-eq0-clause-depth
depth_of-returns-then-node-eq0-clause-depth t c = empty_at c.args.nodes.now _ c.in-len1-up.len_at_least (sym c.holds_others.ensures ∙ c.if-not-holds_others.false) c.if-node-eq0.true

pub pass-loop-done-preserved : goal.pass-loop-done-preserved
pass-loop-done-preserved t c = record {
  shorter = omega arith;
  goes = λ at index shape ps behind l many.
      let max_is : c.max-deepest.result ≡ max c.loop-done.deepest c.depth_of-depth.result.0 = c.max-deepest.ensures ∙ max_is c.loop-done.deepest c.depth_of-depth.result.0 in
      subst (λ (n : ℕ). Goes at ps shape behind (c.loop-done._done + 1) n c.end_of-end.result c.depth_of-depth.result.1.now) (sym max_is)
      (goes_turn at ps shape behind c.loop-done._done c.loop-done.deepest c.loop-done.end c.end_of-end.result c.depth_of-depth.result.0 c.loop-done.rest.now c.depth_of-depth.result.1.now
      (c.loop-done.invariant.goes at index shape ps behind l many) (omega (arith, many)) c.depth_of-depth.ensures.depth c.end_of-end.ensures);
}

pub pass-returns-clause-passed : goal.pass-returns-clause-passed
pass-returns-clause-passed t c at index shape ps behind l many =
    let n = goes_end at ps shape behind c.loop-done._done c.loop-done.deepest c.loop-done.end c.loop-done.rest.now (c.loop-done.invariant.goes at index shape ps behind l many) (omega (arith, many)) in
    (n.deepest, n.ends, n.rest_is)
