use Rattle.std.proofs.Common.{◌≡◌, take}
use Rattle.manifest_rules.specs.Catalog.{scope_ids}
use Rattle.manifest_rules.proofs.ids.ids_of_scopes.Given as goal

abbrev pub invariant-loop-scope : goal.invariant-loop-scope
invariant-loop-scope l = l.ids.items ≡ scope_ids (take l.scope-index l.scopes)
