use Rattle.manifest_rules.specs.Form.{scope_from}
use Rattle.manifest_rules.proofs.Steps.{Read}
use Rattle.manifest_rules.proofs.reading.scopes_from.Given as goal

abbrev pub invariant-loop-item : goal.invariant-loop-item
invariant-loop-item l = Read scope_from l.items l.item-index l.scopes
