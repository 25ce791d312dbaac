use Rattle.std.proofs.Common.{◌≡◌, ◌++◌, length, take, flat_map}
use Rattle.std.specs.Int.{w32, to_be_bytes}
use Rattle.manifest_rules.proofs.state.add_ids.Given as goal

abbrev pub invariant-loop-id : goal.invariant-loop-id
invariant-loop-id l = l.out.items ≡ l.fn.out.items ++ (to_be_bytes w32 (length l.ids) ++ flat_map (to_be_bytes w32) (take l.id-index l.ids))
