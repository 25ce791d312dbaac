use Rattle.std.proofs.Common.{◌≡◌, ◌++◌}
use Rattle.std.proofs.Common.{map as list_map}
use Rattle.magma_store.proofs.getting.all_spots.Given as goal

abbrev pub invariant-loop-spot : goal.invariant-loop-spot
invariant-loop-spot l =
    l.all.items ++ (list_map (λ e. e.1) l.spot-iterator.slots ++ l.spot-iterator.others) ≡ list_map (λ e. e.1) l.initial.spot-iterator.slots ++ l.initial.spot-iterator.others
