use Rattle.std.proofs.Common.{◌≡◌, ◌++◌, take, flat_map}
use Rattle.magma_store.specs.Changes.{name_bytes}
use Rattle.magma_store.proofs.spelling.add_names.Given as goal

abbrev pub invariant-loop-name : goal.invariant-loop-name
invariant-loop-name l = l.out.items ≡ l.fn.out.items ++ flat_map name_bytes (take l.name-index l.names)
