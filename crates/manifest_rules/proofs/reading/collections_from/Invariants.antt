use Rattle.manifest_rules.specs.Form.{collection_from}
use Rattle.manifest_rules.proofs.Steps.{Read}
use Rattle.manifest_rules.proofs.reading.collections_from.Given as goal

abbrev pub invariant-loop-item : goal.invariant-loop-item
invariant-loop-item l = Read collection_from l.items l.item-index l.collections
