use Rattle.std.proofs.Common.{◌≡◌, ◌++◌, map, take}
use Rattle.manifest_rules.specs.Text.{with_commas, scope_text}
use Rattle.manifest_rules.proofs.writing.add_scopes.Given as goal

abbrev pub invariant-loop-at : goal.invariant-loop-at
invariant-loop-at l = l.out.items ≡ l.fn.out.items ++ with_commas (map scope_text (take l.at l.scopes))
