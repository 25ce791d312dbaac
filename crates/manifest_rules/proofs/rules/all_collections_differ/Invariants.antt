use Rattle.std.proofs.Common.{◌≡◌, take, true}
use Rattle.std.specs.List.{list_all}
use Rattle.manifest_rules.specs.Rules.{names_differ_in}
use Rattle.manifest_rules.proofs.rules.all_collections_differ.Given as goal

abbrev pub invariant-loop-scope : goal.invariant-loop-scope
invariant-loop-scope l = list_all names_differ_in (take l.scope-index l.scopes) ≡ true
