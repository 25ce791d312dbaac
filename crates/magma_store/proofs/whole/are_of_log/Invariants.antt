use Rattle.std.specs.List.{list_all}
use Rattle.std.proofs.Common.{◌≡◌, ◌++◌}
use Rattle.std.proofs.Common.{map as list_map}
use Rattle.magma_store.specs.Whole.{is_of_log}
use Rattle.magma_store.proofs.whole.are_of_log.Given as goal

abbrev pub invariant-loop-spot : goal.invariant-loop-spot
invariant-loop-spot l =
    list_all (is_of_log l.length l.cas) (list_map (λ e. e.1) l.initial.spot-iterator.slots ++ l.initial.spot-iterator.others)
    ≡ list_all (is_of_log l.length l.cas) (list_map (λ e. e.1) l.spot-iterator.slots ++ l.spot-iterator.others)
