use Rattle.std.proofs.Common.{◌≡◌, ◌++◌}
use Rattle.std.proofs.Common.{map as list_map}
use Rattle.magma_store.specs.declared.spot.Spot.{Spot}
use Rattle.magma_store.proofs.whole.add_seqnos.Given as goal

abbrev pub invariant-loop-spot : goal.invariant-loop-spot
invariant-loop-spot l =
    l.numbers.items ++ list_map (λ (s : Spot). s.seqno) (list_map (λ e. e.1) l.spot-iterator.slots ++ l.spot-iterator.others)
    ≡ l.initial.numbers.items ++ list_map (λ (s : Spot). s.seqno) (list_map (λ e. e.1) l.initial.spot-iterator.slots ++ l.initial.spot-iterator.others)
