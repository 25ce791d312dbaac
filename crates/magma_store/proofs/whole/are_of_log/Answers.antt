use Rattle.std.specs.List.{list_all}
use Rattle.std.proofs.Common.{◌≡◌, false, sym, ap, ◌∙◌}
use Rattle.magma_store.specs.Whole.{is_of_log}
use Rattle.magma_store.proofs.Going.{left, made_later, of_greater, one_fails}
use Rattle.magma_store.proofs.whole.are_of_log.Goals as goal
use Rattle.magma_store.proofs.whole.are_of_log.Goals.{then-spot-length-via-then-spot-length, then-spot-length-via-else-spot-length+then-spot-cas}

pub returns-then-spot-length : goal.returns-then-spot-length
returns-then-spot-length c =
    let test = is_of_log c.args.length c.args.cas in
    let fails : test c.in-Some.spot.now ≡ false = elim c.then-spot-length.branch [
      | then-spot-length-via-then-spot-length w ↦ made_later c.args.length c.args.cas c.in-Some.spot.now w.if-spot-length.true
      | then-spot-length-via-else-spot-length+then-spot-cas w ↦ of_greater c.args.length c.args.cas c.in-Some.spot.now w.if-spot-cas.true
    ] in
    record {
      values = left c.values-spot-items.result;
      are = c.values-spot-items.ensures;
      is = sym (ap (λ v. list_all test (left v)) (sym c.into_iter-spot-iterator.ensures.into_iter_gives) ∙ c.loop-spot.invariant
          ∙ ap (list_all test) c.in-Some.ensures.steps ∙ one_fails c.args.length c.args.cas c.in-Some.spot.now (left c.next.new.self) fails);
    }

pub returns : goal.returns
returns c =
    let test = is_of_log c.args.length c.args.cas in
    record {
      values = left c.values-spot-items.result;
      are = c.values-spot-items.ensures;
      is = sym (ap (λ v. list_all test (left v)) (sym c.into_iter-spot-iterator.ensures.into_iter_gives) ∙ c.loop-spot.invariant
          ∙ ap (list_all test) c.in-None.ensures.steps.0);
    }
