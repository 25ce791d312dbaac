use Rattle.std.proofs.Common.{◌++◌, sym, ap, ◌∙◌, append-nil}
use Rattle.std.proofs.Common.{map as list_map}
use Rattle.magma_store.specs.declared.spot.Spot.{Spot}
use Rattle.magma_store.proofs.Going.{left}
use Rattle.magma_store.proofs.whole.add_seqnos.Goals as goal

pub returns : goal.returns
returns c =
    let numbers = c.loop-spot.numbers.items in
    record {
      values = left c.values-spot-items.result;
      are = c.values-spot-items.ensures;
      is = sym (append-nil numbers) ∙ ap (λ l. numbers ++ list_map (λ (s : Spot). s.seqno) l) (sym c.in-None.ensures.steps.0) ∙ c.loop-spot.invariant
          ∙ ap (λ v. c.args.numbers.now.items ++ list_map (λ (s : Spot). s.seqno) (left v)) c.into_iter-spot-iterator.ensures.into_iter_gives;
    }
