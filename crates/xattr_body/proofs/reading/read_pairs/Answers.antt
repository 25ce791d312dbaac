use Rattle.std.proofs.Common.{refl, nat_cmp}
use Rattle.std.specs.BTreeSet.{contains}
use Rattle.std.specs.Cmp.Lexicographic.{slice_cmp}
use Rattle.xattr_body.specs.Fields.{PairAt, NoPairAt}
use Rattle.xattr_body.proofs.Going.{match_some, not_empty, next_read, next_twice}
use Rattle.xattr_body.proofs.reading.read_pairs.Goals as goal

pub returns-then-not-branch-clause-broken : goal.returns-then-not-branch-clause-broken
returns-then-not-branch-clause-broken c =
    let rest = c.loop-rest.rest.now in
    let found = c.in-Some.found in
    let at = match_some c.in_ok-found.field-0 found (NoPairAt rest) (λ x. PairAt rest (x.0.now, x.1.now) x.2.now) c.in-Some.is c.in_ok-found.ensures in (
      _,
      refl,
      next_twice c.args.behind.now rest found.2.now (found.0.now, found.1.now) c.loop-rest.pairs.items (contains (slice_cmp nat_cmp) c.loop-rest.seen) (contains (slice_cmp nat_cmp) c.add_name.new.names) c.in_ok-add_name.field-0
          c.loop-rest.invariant (not_empty rest c.loop-rest-test.ensures) at c.in_ok-add_name.ensures c.if-not-branch.true,
    )

pub loop-rest-preserved : goal.loop-rest-preserved
loop-rest-preserved c =
    let rest = c.loop-rest.rest.now in
    let found = c.in-Some.found in
    let at = match_some c.in_ok-found.field-0 found (NoPairAt rest) (λ x. PairAt rest (x.0.now, x.1.now) x.2.now) c.in-Some.is c.in_ok-found.ensures in
    next_read c.args.behind.now rest found.2.now (found.0.now, found.1.now) c.loop-rest.pairs.items c.add_pair.new.pairs.items (contains (slice_cmp nat_cmp) c.loop-rest.seen) (contains (slice_cmp nat_cmp) c.add_name.new.names) c.in_ok-add_name.field-0
    c.loop-rest.invariant at c.in_ok-add_name.ensures c.if-not-branch.false c.in_ok-add_pair.ensures
