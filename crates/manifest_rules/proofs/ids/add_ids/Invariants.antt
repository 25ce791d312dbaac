use Rattle.std.proofs.Common.{◌≡◌, ◌++◌, map, take}
use Rattle.manifest_rules.proofs.ids.add_ids.Given as goal

abbrev pub invariant-loop-collection : goal.invariant-loop-collection
invariant-loop-collection l = l.ids.items ≡ l.fn.ids.items ++ map (λ c. c.id) (take l.collection-index l.scope.collections)
